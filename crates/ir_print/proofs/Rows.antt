-- Rows of texts that read back: one behind another, behind commas, and in brackets.
use Rattle.std.proofs.Common.{◌≡◌, ℕ, ◌^◌, Bool, true, length, List, [], ◌∷◌, ◌++◌, refl, sym, ap, ◌∙◌, subst, map, append_assoc, None, flat_map}
use Rattle.std.specs.Prelude.{codes, nat_lt}
use Rattle.std.specs.List.{list_all}
use Rattle.std.proofs.lemmas.Bool.{and_parts}
use Rattle.ir_core.specs.Built.{built_all}
use Rattle.ir_lex.specs.declared.token.TokenKind.{TokenKind}
use Rattle.ir_lex.specs.Tokens.{is_run_byte}
use Rattle.ir_print.specs.Names.{after_commas, with_commas}
use Rattle.ir_print.proofs.Scanning.{IsApart, Open, nothing, opened, closed_closed, closed_open, open_open}
use Rattle.ir_print.proofs.Derivations.{Reads, Shut, Tight, Trails, given, value_open, value_trails, word_shut, word_tight, left_shut, right_shut, comma}
use Rattle.ir_grammar.specs.Grammar.{Grammar, many, loop, Derives}
use Rattle.ir_grammar.specs.Parts.{the_mark, behind_comma, listed}

-- each of several
abbrev pub AllRead : {A : Type 0} → Grammar A → (A → List ℕ) → List A → Type 0
AllRead g T [] = Unit {0}
AllRead g T (x ∷ xs) = Reads g x (T x) × AllRead g T xs

abbrev pub AllShut : {A : Type 0} → Grammar A → (A → List ℕ) → List A → Type 0
AllShut g T [] = Unit {0}
AllShut g T (x ∷ xs) = Shut g x (T x) × AllShut g T xs

-- a comma is apart
comma_parts : (f rest : List ℕ) → IsApart ((codes ", " ++ f) ++ rest)
unfolding is_run_byte
comma_parts f rest = record { run = refl; colon = refl; quote = refl }

-- each of those that pass
pub all_reads : {A : Type 0} (g : Grammar A) (T : A → List ℕ) (test : A → Bool) → ((x : A) → test x ≡ true → Reads g x (T x)) → (xs : List A) → list_all test xs ≡ true → AllRead g T xs
all_reads g T test go [] h = tt
all_reads g T test go (x ∷ xs) h = let parts = and_parts (test x) (list_all test xs) h in (go x parts.0, all_reads g T test go xs parts.1)

pub all_shut : {A : Type 0} (g : Grammar A) (T : A → List ℕ) (test : A → Bool) → ((x : A) → test x ≡ true → Shut g x (T x)) → (xs : List A) → list_all test xs ≡ true → AllShut g T xs
all_shut g T test go [] h = tt
all_shut g T test go (x ∷ xs) h = let parts = and_parts (test x) (list_all test xs) h in (go x parts.0, all_shut g T test go xs parts.1)

-- a row of values that are made of those that pass
pub row_made : {A B : Type 0} (g : Grammar A) (make : B → A) (T : B → List ℕ) (test : B → Bool) → ((y : B) → test y ≡ true → Shut g (make y) (T y)) → (ys : List B) → list_all test ys ≡ true → Shut (many g) (map make ys) (flat_map T ys)
row_made g make T test go [] h = record { ks = []; scan = nothing; derives = refl }
row_made g make T test go (y ∷ ys) h =
    let parts = and_parts (test y) (list_all test ys) h in
    let first = go y parts.0 in
    let more = row_made g make T test go ys parts.1 in
    record { ks = first.ks ++ more.ks; scan = closed_closed (T y) (flat_map T ys) first.ks more.ks first.scan more.scan; derives = (first.ks, more.ks, refl, first.derives, more.derives) }

-- a row behind a row
rows_derive : {A : Type 0} (g : Grammar A) (xs ys : List A) (us vs : List TokenKind) → Derives (many g) xs us → Derives (many g) ys vs → Derives (many g) (xs ++ ys) (us ++ vs)
rows_derive g [] ys us vs d e = subst (λ (t : List TokenKind). Derives (many g) ys (t ++ vs)) (sym d) e
rows_derive g (x ∷ xs) ys us vs d e = (d.0, d.1 ++ vs, ap (λ (t : List TokenKind). t ++ vs) d.2 ∙ append_assoc d.0 d.1 vs, d.3, rows_derive g xs ys d.1 vs d.4 e)

pub rows_shut : {A : Type 0} {g : Grammar A} {xs ys : List A} {s t : List ℕ} → Shut (many g) xs s → Shut (many g) ys t → Shut (many g) (xs ++ ys) (s ++ t)
rows_shut {g = g} {xs = xs} {ys = ys} {s = s} {t = t} x y =
    record { ks = x.ks ++ y.ks; scan = closed_closed s t x.ks y.ks x.scan y.scan; derives = rows_derive g xs ys x.ks y.ks x.derives y.derives }

-- the parts of what is built are built
pub each_built : {A : Type 0} (test : A → Bool) (xs : List A) → built_all test xs ≡ true → list_all test xs ≡ true
each_built test xs h = (and_parts (nat_lt (length xs) (2 ^ 32)) (list_all test xs) h).1

module _ {A : Type 0} (g : Grammar A) (T : A → List ℕ) where
  -- one behind another
  pub row_shut : (xs : List A) → AllShut g T xs → Shut (many g) xs (flat_map T xs)
  row_shut [] all = record { ks = []; scan = nothing; derives = refl }
  row_shut (x ∷ xs) all =
      let more = row_shut xs all.1 in
      record { ks = all.0.ks ++ more.ks; scan = closed_closed (T x) (flat_map T xs) all.0.ks more.ks all.0.scan more.scan; derives = (all.0.ks, more.ks, refl, all.0.derives, more.derives) }

  -- behind commas
  pub behind_commas : (xs : List A) → AllRead g T xs → Trails (many (behind_comma g)) xs (after_commas T xs)
  unfolding after_commas
  behind_commas [] all = record { reads = record { ks = []; scan = opened [] [] nothing; derives = refl }; parts = λ rest apart. apart }
  behind_commas (x ∷ xs) all =
      let more = behind_commas xs all.1 in
      let first : Reads (behind_comma g) x (codes ", " ++ T x) = value_open (word_shut (given (λ (y : A). y)) comma.shut) all.0 in
      record {
        reads = record {
          ks = first.ks ++ more.reads.ks;
          scan = open_open (codes ", " ++ T x) (after_commas T xs) first.ks more.reads.ks first.scan more.parts more.reads.scan;
          derives = (first.ks, more.reads.ks, refl, first.derives, more.reads.derives);
        };
        parts = λ rest apart. subst IsApart (sym (append_assoc (codes ", " ++ T x) (after_commas T xs) rest)) (comma_parts (T x) (after_commas T xs ++ rest));
      }

  -- the same, where something else may end them
  pub behind_commas_alone : {B : Type 0} (h : Grammar B) (xs : List A) → AllRead g T xs → Trails (loop (the_mark 44) g h) (xs, None) (after_commas T xs)
  unfolding after_commas
  behind_commas_alone h [] all = record { reads = record { ks = []; scan = opened [] [] nothing; derives = ([], [], refl, refl, refl) }; parts = λ rest apart. apart }
  behind_commas_alone h (x ∷ xs) all =
      let more = behind_commas_alone h xs all.1 in
      let a = comma.shut in
      let first : Open (codes ", " ++ T x) (a.ks ++ all.0.ks) = closed_open (codes ", ") (T x) a.ks all.0.ks a.scan all.0.scan in
      let d = more.reads.derives in
      record {
        reads = record {
          ks = (a.ks ++ all.0.ks) ++ more.reads.ks;
          scan = open_open (codes ", " ++ T x) (after_commas T xs) (a.ks ++ all.0.ks) more.reads.ks first more.parts more.reads.scan;
          derives = ((a.ks ++ all.0.ks) ++ d.0, d.1, ap (λ k. (a.ks ++ all.0.ks) ++ k) d.2 ∙ sym (append_assoc (a.ks ++ all.0.ks) d.0 d.1), (a.ks ++ all.0.ks, d.0, refl, (a.ks, all.0.ks, refl, a.derives, all.0.derives), d.3), d.4);
        };
        parts = λ rest apart. subst IsApart (sym (append_assoc (codes ", " ++ T x) (after_commas T xs) rest)) (comma_parts (T x) (after_commas T xs ++ rest));
      }

  -- none, and a mark behind
  pub listed_none : (close : ℕ) (t : List ℕ) → Shut (the_mark close) tt t → Shut (listed close g) [] t
  listed_none close t x = left_shut (word_shut (given []) x)

  -- some with commas between, and a mark behind
  pub listed_some : (close : ℕ) (t : List ℕ) (x : A) (xs : List A) → AllRead g T (x ∷ xs) → Tight (the_mark close) tt t → Shut (listed close g) (x ∷ xs) (with_commas T (x ∷ xs) ++ t)
  listed_some close t x xs all end = right_shut (word_tight (value_trails (value_open (given (λ (y : A) (ys : List A). y ∷ ys)) all.0) (behind_commas xs all.1)) end)

  -- none or some, where the mark's text is the same for both
  pub listed_any : (close : ℕ) (t : List ℕ) (xs : List A) → AllRead g T xs → Tight (the_mark close) tt t → Shut (listed close g) xs (with_commas T xs ++ t)
  listed_any close t [] all end = listed_none close t end.shut
  listed_any close t (x ∷ xs) all end = listed_some close t x xs all end

-- the same of texts that stand in a list
pub commas-map : {A : Type 0} (T : A → List ℕ) (xs : List A) → after_commas (λ (t : List ℕ). t) (map T xs) ≡ after_commas T xs
unfolding after_commas
commas-map T [] = refl
commas-map T (x ∷ xs) = ap (λ t. (codes ", " ++ T x) ++ t) (commas-map T xs)
