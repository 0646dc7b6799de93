-- A displacement is in range, and leads where it should.
use Rattle.std.proofs.Common.{◌≡◌, ℕ, ◌<◌, ◌^◌, refl, arith}
use Rattle.std.specs.Prelude.{ℤ, pos, negsuc, ◌-ℤ◌}
use Rattle.std.proofs.lemmas.Int.{ints}
use Rattle.x86_core.specs.Arithmetic.{moved}
use Rattle.x86_core.specs.Encoding.{IsNumber32}
use Rattle.frame_lower.specs.Rows.{between}

pub between_in : (from to : ℕ) → from < 2 ^ 31 → to < 2 ^ 31 → IsNumber32 (between from to)
between_in from to a b = small (between from to) refl
  where
    small : (z : ℤ) → z ≡ pos to -ℤ pos from → IsNumber32 z
    small (pos n) e = omega (arith, ints, a, b, e)
    small (negsuc n) e = omega (arith, ints, a, b, e)

pub leads : (from to : ℕ) → from < 2 ^ 31 → to < 2 ^ 31 → moved from (between from to) ≡ to
leads from to a b = is (between from to) refl
  where
    is : (z : ℤ) → z ≡ pos to -ℤ pos from → moved from z ≡ to
    is (pos n) e = omega (arith, ints, a, b, e)
    is (negsuc n) e = omega (arith, ints, a, b, e)
