-- Rows, as a loop reads them.
use Rattle.std.proofs.Common.{◌≡◌, ℕ, suc, ◌<◌, true, false, List, [], ◌∷◌, ◌++◌, length, refl, sym, ◌∙◌, ap, append_assoc, append-nil, subst, arith}
use Rattle.ir_lex.specs.declared.token.Token.{Token}
use Rattle.ir_lex.specs.declared.token.TokenKind.{TokenKind}
use Rattle.ir_grammar.specs.Tokens.{starts, kinds}
use Rattle.ir_grammar.specs.Grammar.{Grammar, many, Derives}
use Rattle.ir_grammar.specs.Reading.{first, null, fine, Read, done, fault, ◌>>=◌, read, put_before}
use Rattle.ir_grammar.specs.Parts.{the_mark, behind_comma, skip}
use Rattle.ir_grammar.proofs.Heads.{nulls, heads}
use Rattle.ir_grammar.proofs.Alike.{Took, Told}
use Rattle.ir_grammar.proofs.Told.{told, shrinks_of, row-step, row-none}

-- what can stand in a row
pub record Item {A : Type 0} (g : Grammar A) : Type 0 where
  pub good : fine g ≡ true
  pub some : null g ≡ false

put_put : {A : Type 0} (all : List A) (v : A) (r : Read (List A)) → put_before all (r >>= λ vs us. done (v ∷ vs) us) ≡ put_before (all ++ v ∷ []) r
put_put all v (done vs us) = ap (λ x. done x us) (sym (append_assoc all (v ∷ []) vs))
put_put all v (fault left) = refl

module _ {A : Type 0} (g : Grammar A) (item : Item g) where
  -- what is read begins with one of the first sorts
  pub starts_item : (ts : List TokenKind) (v : A) (us : List TokenKind) → read g ts ≡ done v us → starts (first g) ts ≡ true
  starts_item ts v us e = by_took (subst (Told (Derives g) (read g) ts) e (told g item.good ts))
    where
      by_front : (front : List TokenKind) → ts ≡ front ++ us → Derives g v front → starts (first g) ts ≡ true
      by_front [] cut d = absurd (let none = nulls g v [] refl d in let q : true ≡ false = sym none ∙ item.some in cc)
      by_front (t ∷ front) cut d = rw cut (heads g v t front d)

      by_took : Took (Derives g) (read g) ts v us → starts (first g) ts ≡ true
      by_took t = by_front t.front t.cut t.derives

  pub row_shorter : (ts : List TokenKind) (v : A) (us : List TokenKind) → read g ts ≡ done v us → length us < length ts
  row_shorter ts v us e = shrinks_of g item.some (λ us. told g item.good us) ts v us e

  -- one more
  pub row_more : (all : List A) (ts : List TokenKind) (v : A) (us : List TokenKind) → read g ts ≡ done v us
      → put_before (all ++ v ∷ []) (read (many g) us) ≡ put_before all (read (many g) ts)
  row_more all ts v us e =
      let step = row-step (Derives g) (read g) (first g) (λ ts v us q. row_shorter ts v us q) ts (starts_item ts v us e) in
      let here : read (many g) ts ≡ read (many g) us >>= λ vs rest. done (v ∷ vs) rest = step ∙ ap (λ x. x >>= λ a us. read (many g) us >>= λ vs rest. done (a ∷ vs) rest) e in
      sym (ap (put_before all) here ∙ put_put all v (read (many g) us))

  -- none is next
  pub row_end : (all : List A) (ts : List TokenKind) → starts (first g) ts ≡ false → put_before all (read (many g) ts) ≡ done all ts
  row_end all ts e = ap (put_before all) (row-none (Derives g) (read g) (first g) ts e) ∙ ap (λ x. done x ts) (append-nil all)

  -- one is next, and not whole
  pub row_fault : (all : List A) (ts : List TokenKind) (left : ℕ) → starts (first g) ts ≡ true → read g ts ≡ fault left → put_before all (read (many g) ts) ≡ fault left
  row_fault all ts left s e =
      let step = row-step (Derives g) (read g) (first g) (λ ts v us q. row_shorter ts v us q) ts s in
      ap (put_before all) (step ∙ ap (λ x. x >>= λ a us. read (many g) us >>= λ vs rest. done (a ∷ vs) rest) e)

-- tokens have as many kinds
pub length-kinds : (ts : List Token) → length (kinds ts) ≡ length ts
length-kinds [] = refl
length-kinds (t ∷ ts) = ap suc (length-kinds ts)

abbrev pub done_with : List TokenKind → Read (Unit {0})
done_with rest = done tt rest

forget : {A : Type 0} (v : A) (r : Read (List A)) → ((r >>= λ ws rest. done (v ∷ ws) rest) >>= λ _ rest. done_with rest) ≡ (r >>= λ _ rest. done_with rest)
forget v (done ws rest) = refl
forget v (fault left) = refl

-- what a loop over tokens needs where it has read one more
module _ {A : Type 0} (g : Grammar A) (item : Item g) (ts vs : List Token) (v : A) (one : read g (kinds ts) ≡ done v (kinds vs)) where
  pub shorter : length vs < length ts
  shorter =
      let less = row_shorter g item (kinds ts) v (kinds vs) one in
      let before = length-kinds ts in
      let after = length-kinds vs in
      omega arith

  pub more : (all longer : List A) → longer ≡ all ++ v ∷ [] → put_before longer (read (many g) (kinds vs)) ≡ put_before all (read (many g) (kinds ts))
  more all longer e = ap (λ x. put_before x (read (many g) (kinds vs))) e ∙ row_more g item all (kinds ts) v (kinds vs) one

  pub skipped : read (skip g) (kinds vs) ≡ read (skip g) (kinds ts)
  skipped =
      let step = row-step (Derives g) (read g) (first g) (λ ts v us q. row_shorter g item ts v us q) (kinds ts) (starts_item g item (kinds ts) v (kinds vs) one) in
      let here : read (many g) (kinds ts) ≡ read (many g) (kinds vs) >>= λ ws rest. done (v ∷ ws) rest = step ∙ ap (λ x. x >>= λ a us. read (many g) us >>= λ ws rest. done (a ∷ ws) rest) one in
      sym (ap (λ x. x >>= λ _ rest. done_with rest) here ∙ forget v (read (many g) (kinds vs)))

-- one behind a comma
pub comma_read : {A : Type 0} (g : Grammar A) (v : A) (ts us vs : List TokenKind) → read (the_mark 44) ts ≡ done tt us → read g us ≡ done v vs → read (behind_comma g) ts ≡ done v vs
comma_read g v ts us vs p q = rw p (rw q refl)

-- nothing is before a row that has just begun
pub put_none : {A : Type 0} (r : Read (List A)) → put_before [] r ≡ r
put_none (done ws rest) = refl
put_none (fault left) = refl
