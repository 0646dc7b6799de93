-- A shuffle is a permutation of the numbers below n.
use Rattle.std.proofs.Common.{◌≡◌, ◌∙◌, sym, refl, subst, ap, ℕ, zero, suc, ◌+◌, ◌-◌, ◌%◌, ◌<◌, ◌⊎◌, inl, inr, List, length, get_or, arith}
use Rattle.std.proofs.lemmas.Bool.{cases_eq}
use Rattle.std.proofs.lemmas.List.Edits.{Swapped, swapped_from_swap, length-swap}
use Rattle.std.proofs.lemmas.List.Sorted.{IsPermutation-refl, IsPermutation-trans, IsPermutation-swap, IsPermutation-keeps, length_permutation, All-permutation, Contains-permutation}
use Rattle.std.specs.List.{swap, range_with_len, All, Contains}
use Rattle.std.specs.List.Sorted.{IsPermutation}
use Rattle.rd_draw.specs.Draw.{swapped_down, shuffled, AreDistinct}
use Rattle.rd_draw.proofs.Numbers.{numbers_long, numbers_at}

-- exchanges within a list permute it
down_permutes : (words : ℕ → ℕ) (i drawn : ℕ) (xs : List ℕ) → i < length xs → IsPermutation xs (swapped_down words i drawn xs)
down_permutes words zero drawn xs h = IsPermutation-refl xs
down_permutes words (suc i) drawn xs h =
    let j = words drawn % (suc i + 1) in
    let within : j < length xs = omega arith in
    let ys = swap xs (suc i) j in
    IsPermutation-trans xs ys _ (IsPermutation-swap xs ys (suc i) j h within refl)
    (down_permutes words i (drawn + 1) ys (omega (arith, length-swap xs (suc i) j)))

-- the shuffled numbers are the numbers below n in some order
pub shuffled_permutes : (words : ℕ → ℕ) (n : ℕ) → IsPermutation (range_with_len 0 n) (shuffled words n)
unfolding shuffled
shuffled_permutes words zero = IsPermutation-refl _
shuffled_permutes words (suc n) = down_permutes words (suc n - 1) 0 (range_with_len 0 (suc n)) (omega (arith, numbers_long (suc n)))

-- there are n of them
pub shuffled_long : (words : ℕ → ℕ) (n : ℕ) → length (shuffled words n) ≡ n
shuffled_long words n = length_permutation _ _ (shuffled_permutes words n) ∙ numbers_long n

-- each is below n
pub shuffled_below : (words : ℕ → ℕ) (n : ℕ) → All (λ x. x < n) (shuffled words n)
shuffled_below words n =
    All-permutation (λ x. x < n) (range_with_len 0 n) (shuffled words n) (shuffled_permutes words n)
    (λ k d h. let low : k < n = omega (arith, numbers_long n) in subst (λ x. x < n) (sym (numbers_at n k d low)) low)

-- each number below n is one of them
pub shuffled_holds : (words : ℕ → ℕ) (n k : ℕ) → k < n → Contains (shuffled words n) k
shuffled_holds words n k h =
    Contains-permutation (range_with_len 0 n) (shuffled words n) k (shuffled_permutes words n)
    (k, omega (arith, numbers_long n), numbers_at n k k h)

-- where a place finds what it holds after an exchange of a and b
abbrev Came : ℕ → ℕ → ℕ → ℕ → Type 0
Came a b i k = ((i ≡ a) × (k ≡ b)) ⊎ ((i ≡ b) × (k ≡ a)) ⊎ ((i ≡ a → ⊥) × (i ≡ b → ⊥) × (k ≡ i))

-- each place finds it at one place
came : (f g : ℕ → ℕ) (a b n : ℕ) → a < n → b < n → Swapped f g a b → (i : ℕ) → i < n → (k : ℕ) × (k < n) × (g i ≡ f k) × Came a b i k
came f g a b n ha hb s i hi =
    elim (cases_eq i a) [
      | inl at_a ↦ (b, hb, ap g at_a ∙ s.0, inl (at_a, refl))
      | inr not_a ↦ elim (cases_eq i b) [
        | inl at_b ↦ (a, ha, ap g at_b ∙ s.1, inr (inl (at_b, refl)))
        | inr not_b ↦ (i, hi, s.2 i not_a not_b, inr (inr (not_a, not_b, refl)))
      ]
    ]

-- two places that find it at one place are one
came_apart : (a b i j k : ℕ) → Came a b i k → Came a b j k → i ≡ j
came_apart a b i j k (inl p) (inl q) = omega arith
came_apart a b i j k (inl p) (inr (inl q)) = omega arith
came_apart a b i j k (inl p) (inr (inr q)) = omega arith
came_apart a b i j k (inr (inl p)) (inl q) = omega arith
came_apart a b i j k (inr (inl p)) (inr (inl q)) = omega arith
came_apart a b i j k (inr (inl p)) (inr (inr q)) = omega arith
came_apart a b i j k (inr (inr p)) (inl q) = omega arith
came_apart a b i j k (inr (inr p)) (inr (inl q)) = omega arith
came_apart a b i j k (inr (inr p)) (inr (inr q)) = omega arith

-- places that hold different things still do after an exchange
exchange_apart : (f g : ℕ → ℕ) (a b n : ℕ) → a < n → b < n → Swapped f g a b
    → ((i j : ℕ) → i < n → j < n → f i ≡ f j → i ≡ j) → (i j : ℕ) → i < n → j < n → g i ≡ g j → i ≡ j
exchange_apart f g a b n ha hb s apart i j hi hj e =
    let p = came f g a b n ha hb s i hi in
    let q = came f g a b n ha hb s j hj in
    let same : p.0 ≡ q.0 = apart p.0 q.0 p.1 q.1 (sym p.2 ∙ e ∙ q.2) in
    came_apart a b i j q.0 (subst (λ k. Came a b i k) same p.3) q.3

-- no two of the shuffled numbers are the same
pub shuffled_apart : (words : ℕ → ℕ) (n : ℕ) → AreDistinct (shuffled words n)
shuffled_apart words n =
    IsPermutation-keeps (range_with_len 0 n) AreDistinct
    (λ i j hi hj e. sym (numbers_at n i 0 (omega (arith, numbers_long n))) ∙ e ∙ numbers_at n j 0 (omega (arith, numbers_long n)))
    (λ l a b ha hb apart. let long = length-swap l a b in
    λ i j hi hj e. exchange_apart (λ k. get_or l k 0) (λ k. get_or (swap l a b) k 0) a b (length l) ha hb
    (swapped_from_swap l (swap l a b) a b 0 ha hb refl) apart i j (omega (arith, long)) (omega (arith, long)) e)
    (shuffled words n) (shuffled_permutes words n)
