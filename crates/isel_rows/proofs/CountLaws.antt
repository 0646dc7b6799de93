-- The greatest of counts, and numbers in order.
use Rattle.std.proofs.Common.{◌≡◌, ℕ, zero, suc, ◌+◌, ◌-◌, ◌<◌, List, [], ◌∷◌, ◌++◌, max, ap, arith}
use Rattle.std.specs.List.{flat_map}
use Rattle.ir_core.specs.Counts.{greatest}
use Rattle.isel_rows.specs.Functions.{numbers_from}

-- of two rows of counts
pub greatest_append : (xs ys : List ℕ) → greatest (xs ++ ys) ≡ max (greatest xs) (greatest ys)
greatest_append [] ys = omega arith
greatest_append (x ∷ xs) ys = let e = greatest_append xs ys in omega arith

-- the numbers that are left begin with the next one
pub numbers_step : (k count : ℕ) → k < count → numbers_from k (count - k) ≡ k ∷ numbers_from (k + 1) (count - (k + 1))
numbers_step k count below = let e : count - k ≡ suc (count - (k + 1)) = omega arith in ap (numbers_from k) e

pub numbers_end : (k : ℕ) → numbers_from k (k - k) ≡ []
numbers_end k = let e : k - k ≡ zero = omega arith in ap (numbers_from k) e

-- one more part of a sum of lists
pub most_step : {X : Type 0} (counts : X → List ℕ) (most : ℕ) (x : X) (xs : List X) → max (max most (greatest (counts x))) (greatest (flat_map counts xs)) ≡ max most (greatest (flat_map counts (x ∷ xs)))
most_step counts most x xs = let e = greatest_append (counts x) (flat_map counts xs) in omega arith
