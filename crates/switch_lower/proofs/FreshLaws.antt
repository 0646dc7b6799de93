-- Rows of zero bytes, and the most zero bytes of names.
use Rattle.std.proofs.Common.{◌≡◌, ℕ, zero, suc, ◌+◌, List, [], ◌∷◌, ◌++◌, map, max, refl, ap, subst, arith}
use Rattle.std.specs.List.{flat_map}
use Rattle.ir_core.specs.declared.module.Block.{Block}
use Rattle.ir_core.specs.Counts.{greatest}
use Rattle.ir_core.specs.Definitions.{block_names}
use Rattle.switch_lower.specs.Fresh.{zeros_of, zero_bytes}

at_the_end : (k : ℕ) → zero_bytes k ++ 0 ∷ [] ≡ zero_bytes (suc k)
at_the_end zero = refl
at_the_end (suc k) = ap (λ l. 0 ∷ l) (at_the_end k)

-- one more zero byte at the end
pub one_more_zero : (k : ℕ) → zero_bytes k ++ 0 ∷ [] ≡ zero_bytes (k + 1)
one_more_zero k = let e : suc k ≡ k + 1 = omega arith in subst (λ n. zero_bytes k ++ 0 ∷ [] ≡ zero_bytes n) e (at_the_end k)

-- of two rows of names
pub zeros_append : (xs ys : List (List ℕ)) → greatest (map zeros_of (xs ++ ys)) ≡ max (greatest (map zeros_of xs)) (greatest (map zeros_of ys))
zeros_append [] ys = omega arith
zeros_append (x ∷ xs) ys = let e = zeros_append xs ys in omega arith

-- a block among others
pub zeros_step : (most : ℕ) (b : Block) (bs : List Block) → max (max most (greatest (map zeros_of (block_names b)))) (greatest (map zeros_of (flat_map block_names bs))) ≡ max most (greatest (map zeros_of (flat_map block_names (b ∷ bs))))
zeros_step most b bs = let e = zeros_append (block_names b) (flat_map block_names bs) in omega arith
