-- Rows behind separators, as a loop reads them.
use Rattle.std.proofs.Common.{◌≡◌, ℕ, ◌<◌, true, false, List, [], ◌∷◌, ◌++◌, length, refl, sym, ◌∙◌, ap, append_assoc, append-nil, arith, inl, inr, Option, Some}
use Rattle.ir_lex.specs.declared.token.Token.{Token}
use Rattle.ir_lex.specs.declared.token.TokenKind.{TokenKind}
use Rattle.ir_grammar.specs.Tokens.{starts, kinds}
use Rattle.ir_grammar.specs.Grammar.{Grammar, loop}
use Rattle.ir_grammar.specs.Reading.{first, fine, Read, done, fault, ◌>>=◌, read, put_row, with_round, unless_last}
use Rattle.ir_grammar.proofs.Loops.{looped, OneRound, one_round, rounds_shrink, rounds_step, rounds_none}
use Rattle.ir_grammar.proofs.Told.{told}
use Rattle.ir_grammar.proofs.Rows.{Item, starts_item, row_shorter, length-kinds}

-- a loop that can be read
pub record Loop {A B : Type 0} (s : Grammar (Unit {0})) (g : Grammar A) (h : Grammar B) : Type 0 where
  pub good : fine (loop s g h) ≡ true

put_round : {A B : Type 0} (all : List A) (v : A) (r : Read (List A × Option B)) → put_row all (r >>= λ y us. done (with_round (inl v) y) us) ≡ put_row (all ++ v ∷ []) r
put_round all v (done y us) = ap (λ x. done x us) (sym (append_assoc all (v ∷ []) y.0))
put_round all v (fault left) = refl

module _ {A B : Type 0} (s : Grammar (Unit {0})) (g : Grammar A) (h : Grammar B) (item : Loop s g h) where
  item-s : Item s
  item-s = let k = looped s g h item.good in record { good = k.good_s; some = k.some_s }

  item-g : Item g
  item-g = let k = looped s g h item.good in record { good = k.good_g; some = k.some_g }

  -- a separator is next
  step : (ts us : List TokenKind) → read s ts ≡ done tt us
      → read (loop s g h) ts ≡ one_round s g h (looped s g h item.good) ts >>= λ x us. unless_last x (read (loop s g h)) us >>= λ y vs. done (with_round x y) vs
  step ts us e =
      let k = looped s g h item.good in
      rounds_step (OneRound s g h k) (one_round s g h k) (first s)
      (rounds_shrink s g h k (λ us. told s k.good_s us) (λ us. told g k.good_g us) (λ us. told h k.good_h us)) ts (starts_item s item-s ts tt us e)

  -- one more
  pub loop_more : (all longer : List A) (ts us vs : List TokenKind) (v : A) → read s ts ≡ done tt us → read g us ≡ done v vs → longer ≡ all ++ v ∷ []
      → put_row longer (read (loop s g h) vs) ≡ put_row all (read (loop s g h) ts)
  loop_more all longer ts us vs v p q e =
      let k = looped s g h item.good in
      let round : one_round s g h k ts ≡ done (inl v) vs = rw p (rw (starts_item g item-g us v vs q) (rw q refl)) in
      let here : read (loop s g h) ts ≡ read (loop s g h) vs >>= λ y us. done (with_round (inl v) y) us =
      step ts us p ∙ ap (λ x. x >>= λ x us. unless_last x (read (loop s g h)) us >>= λ y vs. done (with_round x y) vs) round in
      rw e (sym (ap (put_row all) here ∙ put_round all v (read (loop s g h) vs)))

  -- no separator is next
  pub loop_end : (all : List A) (ts : List TokenKind) → starts (first s) ts ≡ false → put_row all (read (loop s g h) ts) ≡ done all ts
  loop_end all ts e =
      let k = looped s g h item.good in
      ap (put_row all) (rounds_none (OneRound s g h k) (one_round s g h k) (first s) (length ts) ts e) ∙ ap (λ x. done x ts) (append-nil all)

  -- what ends it
  pub loop_last : (all : List A) (ts us vs : List TokenKind) (b : B) → read s ts ≡ done tt us → starts (first g) us ≡ false → read h us ≡ done b vs
      → put_row all (read (loop s g h) ts) ≡ done all vs
  loop_last all ts us vs b p q r =
      let k = looped s g h item.good in
      let round : one_round s g h k ts ≡ done (inr b) vs = rw p (rw q (rw r refl)) in
      let here : read (loop s g h) ts ≡ done ([], Some b) vs =
      step ts us p ∙ ap (λ x. x >>= λ x us. unless_last x (read (loop s g h)) us >>= λ y vs. done (with_round x y) vs) round in
      ap (put_row all) here ∙ ap (λ x. done x vs) (append-nil all)

  -- one is next, and not whole
  pub loop_fault : (all : List A) (ts us : List TokenKind) (left : ℕ) → read s ts ≡ done tt us → starts (first g) us ≡ true → read g us ≡ fault left
      → put_row all (read (loop s g h) ts) ≡ fault left
  loop_fault all ts us left p q r =
      let k = looped s g h item.good in
      let round : one_round s g h k ts ≡ fault left = rw p (rw q (rw r refl)) in
      ap (put_row all) (step ts us p ∙ ap (λ x. x >>= λ x us. unless_last x (read (loop s g h)) us >>= λ y vs. done (with_round x y) vs) round)

  -- what ends it is next, and not whole
  pub last_fault : (all : List A) (ts us : List TokenKind) (left : ℕ) → read s ts ≡ done tt us → starts (first g) us ≡ false → read h us ≡ fault left
      → put_row all (read (loop s g h) ts) ≡ fault left
  last_fault all ts us left p q r =
      let k = looped s g h item.good in
      let round : one_round s g h k ts ≡ fault left = rw p (rw q (rw r refl)) in
      ap (put_row all) (step ts us p ∙ ap (λ x. x >>= λ x us. unless_last x (read (loop s g h)) us >>= λ y vs. done (with_round x y) vs) round)

  pub loop_shorter : (ts us vs : List Token) (v : A) → read s (kinds ts) ≡ done tt (kinds us) → read g (kinds us) ≡ done v (kinds vs) → length vs < length ts
  loop_shorter ts us vs v p q =
      let one = row_shorter s item-s (kinds ts) tt (kinds us) p in
      let two = row_shorter g item-g (kinds us) v (kinds vs) q in
      let a = length-kinds ts in
      let b = length-kinds us in
      let c = length-kinds vs in
      omega arith
