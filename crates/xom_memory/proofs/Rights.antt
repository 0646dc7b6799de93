-- A right is there exactly where its bit is set.
use Rattle.std.proofs.Common.{◌≡◌, ℕ, ◌*◌, ◌/◌, ◌%◌, eqb, bit_and, arith}
use Rattle.std.proofs.lemmas.Bool.Decides.{nat_tests}
use Rattle.std.proofs.lemmas.Nat.Bits.{and_pow}

pub read_tested : (n : ℕ) → eqb (bit_and n 4) 4 ≡ eqb (n / 4 % 2) 1
read_tested n = let e : bit_and n 4 ≡ (n / 4 % 2) * 4 = and_pow n 2 in grind (arith, nat_tests)

pub write_tested : (n : ℕ) → eqb (bit_and n 2) 2 ≡ eqb (n / 2 % 2) 1
write_tested n = let e : bit_and n 2 ≡ (n / 2 % 2) * 2 = and_pow n 1 in grind (arith, nat_tests)
