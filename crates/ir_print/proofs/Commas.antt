-- One more item in a list with commas.
use Rattle.std.proofs.Common.{◌≡◌, ℕ, zero, suc, ◌+◌, ◌<◌, ◌≤◌, List, [], ◌∷◌, ◌++◌, take, map, length, sym, ap, ◌∙◌, arith, subst, slice_index_or, append_assoc}
use Rattle.std.specs.Prelude.{codes}
use Rattle.std.proofs.lemmas.List.{append-nil}
use Rattle.ir_print.specs.Names.{after_commas, with_commas}

module _ {A : Type 0} (g : A → List ℕ) where
  -- the texts of items, each behind a comma, and with commas between them
  abbrev behind : List A → List ℕ
  behind xs = after_commas (λ (t : List ℕ). t) (map g xs)

  abbrev between : List A → List ℕ
  between xs = with_commas (λ (t : List ℕ). t) (map g xs)

  behind_more : (xs : List A) (i : ℕ) (d : A) → i < length xs → behind (take i xs) ++ (codes ", " ++ g (slice_index_or xs i d)) ≡ behind (take (suc i) xs)
  unfolding after_commas
  behind_more [] i d h = absurd (omega arith)
  behind_more (x ∷ xs) zero d h = sym (append-nil (codes ", " ++ g x))
  behind_more (x ∷ xs) (suc i) d h =
      append_assoc (codes ", " ++ g x) (behind (take i xs)) (codes ", " ++ g (slice_index_or xs i d)) ∙ ap (λ t. (codes ", " ++ g x) ++ t) (behind_more xs i d (omega arith))

  -- the first item, in a text that has none
  pub first_put : (xs : List A) (x : A) (front text2 : List ℕ) → x ≡ slice_index_or xs 0 x → 0 < length xs → text2 ≡ front ++ g x → text2 ≡ front ++ between (take 1 xs)
  unfolding after_commas
  first_put [] x front text2 is h p = absurd (omega arith)
  first_put (y ∷ ys) x front text2 is h p = p ∙ ap (λ t. front ++ t) (ap g is ∙ sym (append-nil (g y)))

  -- an item behind others, in a text that has them
  pub next_put : (xs : List A) (i : ℕ) (x : A) (front text comma text2 : List ℕ) → x ≡ slice_index_or xs i x → 1 ≤ i → i < length xs →
      text ≡ front ++ between (take i xs) → comma ≡ text ++ codes ", " → text2 ≡ comma ++ g x → text2 ≡ front ++ between (take (i + 1) xs)
  next_put [] i x front text comma text2 is some h e c p = absurd (omega arith)
  next_put (y ∷ ys) zero x front text comma text2 is some h e c p = absurd (omega arith)
  next_put (y ∷ ys) (suc i) x front text comma text2 is some h e c p =
      let next : suc (suc i) ≡ suc i + 1 = omega arith in
      let item : List ℕ = codes ", " ++ g (slice_index_or ys i x) in
      let a : text2 ≡ (front ++ (g y ++ behind (take i ys))) ++ item =
      p ∙ ap (λ t. comma ++ g t) is ∙ ap (λ t. t ++ g (slice_index_or ys i x)) (c ∙ ap (λ t. t ++ codes ", ") e) ∙ append_assoc (front ++ (g y ++ behind (take i ys))) (codes ", ") (g (slice_index_or ys i x)) in
      let b : (front ++ (g y ++ behind (take i ys))) ++ item ≡ front ++ (g y ++ behind (take (suc i) ys)) =
      append_assoc front (g y ++ behind (take i ys)) item ∙ ap (λ t. front ++ t) (append_assoc (g y) (behind (take i ys)) item ∙ ap (λ t. g y ++ t) (behind_more ys i x (omega arith))) in
      subst (λ k. text2 ≡ front ++ between (take k (y ∷ ys))) next (a ∙ b)
