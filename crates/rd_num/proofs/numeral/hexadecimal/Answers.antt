use Rattle.std.proofs.Common.{ℕ, ◌≤◌, ◌^◌, arith, lit<}
use Rattle.std.proofs.Math.Nat.{pow-le-pow_right}
use Rattle.rd_num.proofs.numeral.hexadecimal.Goals as goal

-- at most sixteen digits came before
few : (k : ℕ) → k ≤ 16 → 16 ^ k ≤ 16 ^ 16
few k h = pow-le-pow_right {n = 16} (lit< tt) h

pub overflow_mul-n : goal.overflow_mul-n
overflow_mul-n c = let bound : 16 ^ c.loop-c.c-index ≤ 16 ^ 16 = few c.loop-c.c-index (omega arith) in omega arith

pub overflow_add-n : goal.overflow_add-n
overflow_add-n c = let bound : 16 ^ c.loop-c.c-index ≤ 16 ^ 16 = few c.loop-c.c-index (omega arith) in omega arith
