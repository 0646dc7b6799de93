-- What is read tells how the tokens begin: a derivation, or the first stray token.
use Rattle.std.proofs.Common.{◌≡◌, ℕ, zero, suc, ◌<◌, ◌≤◌, ◌⊎◌, Bool, true, false, List, [], ◌∷◌, ◌++◌, length, length-append, refl, sym, ◌∙◌, ap, subst, inl, inr, arith, if◌then◌else◌}
use Rattle.std.specs.Prelude.{◌&&◌, not}
use Rattle.std.proofs.lemmas.Bool.{cases_Bool}
use Rattle.ir_lex.specs.declared.token.TokenKind.{TokenKind}
use Rattle.ir_grammar.specs.Tokens.{Sort, has, starts, sort_of, example, is_spellable}
use Rattle.ir_grammar.specs.Grammar.{Grammar, give, token, both, either, many, nest, loop, Row, Derives}
use Rattle.ir_grammar.specs.Reading.{null, first, next, apart, fine, Read, done, fault, ◌>>=◌, read_one, read_row, read, ending, ending_value}
use Rattle.ir_grammar.proofs.Sets.{and_left, and_right, not_true}
use Rattle.ir_grammar.proofs.Heads.{nulls, ends, spelled-ending, has-example}
use Rattle.ir_grammar.proofs.Alike.{SameHead, starts_same, starts_cut, Took, Told}
use Rattle.ir_grammar.proofs.Chains.{widen, chain, chain_told}
use Rattle.ir_grammar.proofs.Nests.{nest_told}
use Rattle.ir_grammar.proofs.Loops.{looped, loop_told}

-- rows, each item of which takes a token
module _ {A : Type 0} (D : A → List TokenKind → Type 0) (r : List TokenKind → Read A) (sorts : List Sort) where
  abbrev pub row : List TokenKind → Read (List A)
  row ts = read_row (length ts) sorts r ts

  abbrev pub Shrinks : Type 0
  Shrinks = (ts : List TokenKind) (v : A) (rest : List TokenKind) → r ts ≡ done v rest → length rest < length ts

  row_enough : Shrinks → (n m : ℕ) (ts : List TokenKind) → length ts ≤ n → length ts ≤ m → read_row n sorts r ts ≡ read_row m sorts r ts
  row_enough shrinks zero zero ts a b = refl
  row_enough shrinks zero (suc m) [] a b = refl
  row_enough shrinks zero (suc m) (t ∷ ts) a b = absurd (omega arith)
  row_enough shrinks (suc n) zero [] a b = refl
  row_enough shrinks (suc n) zero (t ∷ ts) a b = absurd (omega arith)
  row_enough shrinks (suc n) (suc m) ts a b = by_item (r ts) refl (λ us. row_enough shrinks n m us)
    where
      by_item : (x : Read A) → r ts ≡ x → ((us : List TokenKind) → length us ≤ n → length us ≤ m → read_row n sorts r us ≡ read_row m sorts r us)
          → read_row (suc n) sorts r ts ≡ read_row (suc m) sorts r ts
      by_item (fault left) e go = rw e refl
      by_item (done v us) e go =
          let less = shrinks ts v us e in
          rw e (rw (go us (omega arith) (omega arith)) refl)

  -- no item is next
  pub row-none : (ts : List TokenKind) → starts sorts ts ≡ false → row ts ≡ done [] ts
  row-none [] e = refl
  row-none (t ∷ ts) e = rw e refl

  -- an item is next
  pub row-step : Shrinks → (ts : List TokenKind) → starts sorts ts ≡ true → row ts ≡ r ts >>= λ a us. row us >>= λ rest vs. done (a ∷ rest) vs
  row-step shrinks [] e = absurd (cc)
  row-step shrinks (t ∷ ts) e = rw e (by_item (r (t ∷ ts)) refl)
    where
      by_item : (x : Read A) → r (t ∷ ts) ≡ x → (x >>= λ a us. read_row (length ts) sorts r us >>= λ rest vs. done (a ∷ rest) vs) ≡ (x >>= λ a us. row us >>= λ rest vs. done (a ∷ rest) vs)
      by_item (fault left) q = refl
      by_item (done v us) q =
          let less = shrinks (t ∷ ts) v us q in
          ap (λ x. x >>= λ rest vs. done (v ∷ rest) vs) (row_enough shrinks (length ts) (length us) us (omega arith) (omega arith))

  -- an item and a row behind it are a row
  join_row : (v : A) (vs : List A) (ts left right : List TokenKind) → ts ≡ left ++ right → D v left → Row D vs right → Row D (v ∷ vs) ts
  join_row v vs ts left right cut d more = (left, right, cut, d, more)

  -- no item is next
  none_told : (ts : List TokenKind) → starts sorts ts ≡ false → Told (Row D) row ts (row ts)
  none_told ts e = subst (Told (Row D) row ts) (sym (row-none ts e)) (record {
    front = [];
    cut = refl;
    derives = refl;
    local = λ other same. row-none other (starts_same sorts ts other same ∙ e);
  })

  -- an item is next, and what is told of rows behind it
  some_told : Shrinks → (ts : List TokenKind) → starts sorts ts ≡ true → Told D r ts (r ts)
      → ((us : List TokenKind) (v : A) → r ts ≡ done v us → Told (Row D) row us (row us)) → Told (Row D) row ts (row ts)
  some_told shrinks ts e item go =
      let stepped : List TokenKind → Read (List A) = chain D (λ _. Row D) (Row D) r (λ _. row) (λ v vs. v ∷ vs) in
      subst (Told (Row D) row ts) (sym (row-step shrinks ts e))
      (widen (Row D) (Row D) stepped row ts (stepped ts) (λ v us d. d)
      (λ front rest other cut same. row-step shrinks (front ++ other) (starts_cut sorts ts front rest other cut same ∙ e))
      (chain_told D (λ _. Row D) (Row D) r (λ _. row) (λ v vs. v ∷ vs) ts (r ts) [] [] refl join_row (λ _. refl) item (λ us a q. go us a q)))

  row_told : Shrinks → ((ts : List TokenKind) → Told D r ts (r ts)) → (n : ℕ) (ts : List TokenKind) → length ts ≤ n → Told (Row D) row ts (row ts)
  row_told shrinks item zero [] le = none_told [] refl
  row_told shrinks item zero (t ∷ ts) le = absurd (omega arith)
  row_told shrinks item (suc n) ts le = by_next (cases_Bool (starts sorts ts)) (λ us. row_told shrinks item n us)
    where
      by_next : (starts sorts ts ≡ true) ⊎ (starts sorts ts ≡ false) → ((us : List TokenKind) → length us ≤ n → Told (Row D) row us (row us)) → Told (Row D) row ts (row ts)
      by_next (inr e) go = none_told ts e
      by_next (inl e) go = some_told shrinks ts e (item ts) (λ us v q. go us (let less = shrinks ts v us q in omega arith))

-- one token of these sorts
told_one : {A : Type 0} (s : Sort) (ss : List Sort) (f : TokenKind → A) (ts : List TokenKind) → is_spellable s ≡ true → Told (Derives (token s ss f)) (read_one (s ∷ ss) f) ts (read_one (s ∷ ss) f ts)
told_one s ss f [] ok = record {
  front = [];
  rest = [];
  cut = refl;
  left_is = refl;
  more = s ∷ [];
  spelled = rw ok refl;
  value = f (example s);
  derives = (example s, has-example s ss, refl, refl);
  local = λ other same. at_end other same;
}
  where
    at_end : (other : List TokenKind) → SameHead [] other → read_one (s ∷ ss) f other ≡ fault (length other)
    at_end [] same = refl
    at_end (u ∷ us) same = absurd same
told_one {A} s ss f (t ∷ ts) ok = by_sort (has (s ∷ ss) (sort_of t)) refl
  where
    stray : has (s ∷ ss) (sort_of t) ≡ false → (other : List TokenKind) → SameHead (t ∷ ts) other → read_one (s ∷ ss) f other ≡ fault (length other)
    stray e [] same = absurd same
    stray e (u ∷ us) same =
        let q : has (s ∷ ss) (sort_of u) ≡ false = ap (λ x. has (s ∷ ss) (sort_of x)) (sym same) ∙ e in
        rw q refl

    by_sort : (b : Bool) → has (s ∷ ss) (sort_of t) ≡ b → Told (Derives (token s ss f)) (read_one (s ∷ ss) f) (t ∷ ts) (if b then done (f t) ts else fault (length (t ∷ ts)))
    by_sort true e = record { front = t ∷ []; cut = refl; derives = (t, e, refl, refl); local = λ other same. rw e refl }
    by_sort false e = record {
      front = [];
      rest = t ∷ ts;
      cut = refl;
      left_is = refl;
      more = s ∷ [];
      spelled = rw ok refl;
      value = f (example s);
      derives = (example s, has-example s ss, refl, refl);
      local = λ other same. stray e other same;
    }

-- reading something takes a token
pub shrinks_of : {A : Type 0} (g : Grammar A) → null g ≡ false → ((ts : List TokenKind) → Told (Derives g) (read g) ts (read g ts)) → (ts : List TokenKind) (v : A) (rest : List TokenKind)
    → read g ts ≡ done v rest → length rest < length ts
shrinks_of {A} g some all ts v rest e = by_took (subst (Told (Derives g) (read g) ts) e (all ts))
  where
    longer : (front : List TokenKind) → ts ≡ front ++ rest → Derives g v front → length rest < length ts
    longer [] cut d = absurd (let none = nulls g v [] refl d in let q : true ≡ false = sym none ∙ some in cc)
    longer (t ∷ front) cut d = let l = ap length cut in let parts = length-append front rest in omega arith

    by_took : Took (Derives g) (read g) ts v rest → length rest < length ts
    by_took t = longer t.front t.cut t.derives

either_told : {A : Type 0} (g h : Grammar A) (ts : List TokenKind) → (starts (first g) ts ≡ true) ⊎ (starts (first g) ts ≡ false)
    → Told (Derives g) (read g) ts (read g ts) → Told (Derives h) (read h) ts (read h ts) → Told (Derives (either g h)) (read (either g h)) ts (read (either g h) ts)
either_told {A} g h ts (inl e) tg th =
    let same : read (either g h) ts ≡ read g ts = rw e refl in
    subst (Told (Derives (either g h)) (read (either g h)) ts) (sym same)
    (widen (Derives g) (Derives (either g h)) (read g) (read (either g h)) ts (read g ts) (λ v us d. inl d)
    (λ front rest other cut alike. (let q = starts_cut (first g) ts front rest other cut alike ∙ e in rw q refl)) tg)
either_told {A} g h ts (inr e) tg th =
    let same : read (either g h) ts ≡ read h ts = rw e refl in
    subst (Told (Derives (either g h)) (read (either g h)) ts) (sym same)
    (widen (Derives h) (Derives (either g h)) (read h) (read (either g h)) ts (read h ts) (λ v us d. inr d)
    (λ front rest other cut alike. (let q = starts_cut (first g) ts front rest other cut alike ∙ e in rw q refl)) th)

pub told : {A : Type 0} (g : Grammar A) → fine g ≡ true → (ts : List TokenKind) → Told (Derives g) (read g) ts (read g ts)
told (give a) ok ts = record { front = []; cut = refl; derives = (refl, refl); local = λ other same. refl }
told (token s ss f) ok ts = told_one s ss f ts ok
told (both f g h) ok ts =
    let good_g = and_left (fine g) (fine h && apart (next g) (first h)) ok in
    let more = and_right (fine g) (fine h && apart (next g) (first h)) ok in
    let good_h = and_left (fine h) (apart (next g) (first h)) more in
    chain_told (Derives g) (λ _. Derives h) (Derives (both f g h)) (read g) (λ _. read h) f ts (read g ts) (ending h) (ending_value h) (spelled-ending h good_h)
    (λ a b us left right cut d e. (a, b, left, right, cut, d, e, refl)) (λ _. ends h) (told g good_g ts) (λ us a q. told h good_h us)
told (either g h) ok ts =
    let good_g = and_left (fine g) (fine h && (not (null g) && apart (first g) (first h))) ok in
    let more = and_right (fine g) (fine h && (not (null g) && apart (first g) (first h))) ok in
    let good_h = and_left (fine h) (not (null g) && apart (first g) (first h)) more in
    either_told g h ts (cases_Bool (starts (first g) ts)) (told g good_g ts) (told h good_h ts)
told (many g) ok ts =
    let good = and_left (fine g) (not (null g) && apart (next g) (first g)) ok in
    let more = and_right (fine g) (not (null g) && apart (next g) (first g)) ok in
    let some = not_true (null g) (and_left (not (null g)) (apart (next g) (first g)) more) in
    row_told (Derives g) (read g) (first g) (shrinks_of g some (λ us. told g good us)) (λ us. told g good us) (length ts) ts (omega arith)
told (nest o c) ok ts = nest_told o c ts (spelled-ending (nest o c) ok)
told (loop s g h) ok ts =
    let k = looped s g h ok in
    loop_told s g h k (λ us. told s k.good_s us) (λ us. told g k.good_g us) (λ us. told h k.good_h us) ts
