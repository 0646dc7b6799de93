-- Remainders of words, and division by nothing.
use Rattle.std.proofs.Common.{◌≡◌, ℕ, ◌%◌, ◌/◌, ◌^◌, arith}
use Rattle.std.proofs.Math.Nat.{div-zero, mod-zero}
use Rattle.rd_num.specs.declared.width.Width.{Width}
use Rattle.rd_num.specs.declared.width.Width.TheVariants.{W1, W8, W16, W32, W64}
use Rattle.rd_num.specs.Number.{bits}

-- the low bits of a word are those of the number of which it has the low bits
pub low_of_word : (w : Width) (n : ℕ) → n % 2 ^ 64 % 2 ^ bits w ≡ n % 2 ^ bits w
low_of_word W1 n = omega arith
low_of_word W8 n = omega arith
low_of_word W16 n = omega arith
low_of_word W32 n = omega arith
low_of_word W64 n = omega arith

-- a division by 0 gives 0, and all is left
pub ruleset by_nothing = (div-zero, mod-zero)
