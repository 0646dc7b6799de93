-- Sums, products and gaps of what is told as far as 2^64 - 1.
use Rattle.std.proofs.Common.{◌≡◌, ℕ, zero, suc, ◌+◌, ◌*◌, ◌-◌, ◌^◌, ◌<◌, ◌≤◌, List, [], ◌∷◌, ◌++◌, length, get_or, take, refl, ap, sym, ◌∙◌, arith, inl, inr}
use Rattle.std.specs.Prelude.{max}
use Rattle.std.specs.List.{flat_map, sum_by}
use Rattle.std.proofs.lemmas.Bool.{cases_lt}
use Rattle.std.proofs.lemmas.List.Sums.{sum_by_more}
use Rattle.std.proofs.lemmas.Nat.{mul-le}
use Rattle.ir_core.specs.Counts.{told, spaced, greatest}
use Rattle.ir_core.proofs.LoopLaws.{flat_take}

-- a sum of what is told
told_plus : (a b : ℕ) → told (told a + told b) ≡ told (a + b)
told_plus a b = omega arith

-- one more term of a sum
pub told_more : {X : Type 0} (f : X → ℕ) (xs : List X) (i : ℕ) (x : X) → i < length xs → x ≡ get_or xs i x → told (told (sum_by f (take i xs)) + told (f x)) ≡ told (sum_by f (take (i + 1) xs))
told_more f xs i x inside item = told_plus (sum_by f (take i xs)) (f x) ∙ ap (λ n. told (sum_by f (take i xs) + n)) (ap f item) ∙ ap told (sym (sum_by_more f xs i x inside))

-- a product of what is told
pub told_times : (n s : ℕ) → told (n * told s) ≡ told (n * s)
told_times zero s = omega arith
told_times (suc n) s =
    elim (cases_lt s (2 ^ 64)) [
      | inl below ↦ (let e : told s ≡ s = omega arith in ap (λ k. told (suc n * k)) e)
      | inr above ↦ (let e : told s ≡ 2 ^ 64 - 1 = omega arith in
          let one : 1 ≤ suc n = omega arith in
          let less : 2 ^ 64 - 1 ≤ s = omega arith in
          let all : 2 ^ 64 - 1 ≤ 2 ^ 64 - 1 = omega arith in
          let l = mul-le 1 (2 ^ 64 - 1) (suc n) (2 ^ 64 - 1) one all in
          let r = mul-le 1 (2 ^ 64 - 1) (suc n) s one less in
          let same : told (suc n * (2 ^ 64 - 1)) ≡ told (suc n * s) = omega arith in
          ap (λ k. told (suc n * k)) e ∙ same)
    ]

-- what is told with the gap behind it
pub told_spaced : (n : ℕ) → told (spaced (told n)) ≡ told (spaced n)
told_spaced n = omega arith

-- the greatest of two rows of counts
greatest_append : (xs ys : List ℕ) → greatest (xs ++ ys) ≡ max (greatest xs) (greatest ys)
greatest_append [] ys = omega arith
greatest_append (x ∷ xs) ys = let go = greatest_append xs ys in omega arith

-- one more row
pub greatest_more : {X : Type 0} (f : X → List ℕ) (xs : List X) (i : ℕ) (x : X) → i < length xs → x ≡ get_or xs i x → max (greatest (flat_map f (take i xs))) (greatest (f x)) ≡ greatest (flat_map f (take (i + 1) xs))
greatest_more f xs i x inside item = sym (ap greatest (flat_take xs i x inside item f) ∙ greatest_append (flat_map f (take i xs)) (f x))

-- one more row, as a loop takes the greater of two counts
pub greatest_step : {X : Type 0} (f : X → List ℕ) (xs : List X) (i : ℕ) (x : X) → i < length xs → x ≡ get_or xs i x → (m n r : ℕ) → r ≡ max m n → m ≡ greatest (flat_map f (take i xs)) → n ≡ greatest (f x) → r ≡ greatest (flat_map f (take (i + 1) xs))
greatest_step f xs i x inside item m n r greater so_far one = greater ∙ ap (λ k. max k n) so_far ∙ ap (λ k. max (greatest (flat_map f (take i xs))) k) one ∙ greatest_more f xs i x inside item

-- a sum of two counts that are told
pub told_two : (r p q a b : ℕ) → r ≡ told (p + q) → p ≡ told a → q ≡ told b → r ≡ told (a + b)
told_two r p q a b e f g = e ∙ ap (λ n. told (n + q)) f ∙ ap (λ n. told (told a + n)) g ∙ told_plus a b
