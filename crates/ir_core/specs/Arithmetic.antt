-- Arithmetic on numbers of one width, over whole numbers and remainders.
use Rattle.std.specs.Prelude.{ℕ, ◌+◌, ◌*◌, ◌-◌, ◌/◌, ◌%◌, ◌^◌, ◌<◌, Bool, true, false, not, ◌&&◌, nat_eq, nat_lt, nat_le, if◌then◌else◌, Ok, Err, bit_and, bit_or, bit_xor}
use Rattle.rd_num.specs.declared.width.Width.{Width}
use Rattle.rd_num.specs.Number.{bits}
use Rattle.ir_core.specs.declared.instruction.BinOp.{BinOp}
use Rattle.ir_core.specs.declared.instruction.BinOp.TheVariants.{Add, Sub, Mul, Udiv, Sdiv, Urem, Srem, Shl, Lshr, Ashr, And, Or, Xor}
use Rattle.ir_core.specs.declared.instruction.Pred.{Pred}
use Rattle.ir_core.specs.declared.instruction.Pred.TheVariants.{Eq, Ne, Ult, Ule, Ugt, Uge, Slt, Sle, Sgt, Sge}
use Rattle.ir_core.specs.declared.instruction.CastOp.{CastOp}
use Rattle.ir_core.specs.declared.instruction.CastOp.TheVariants.{Trunc, Zext, Sext}
use Rattle.ir_core.specs.Stops.{Divide, Answer}

-- the numbers of a width are those below this one
abbrev pub modulus : Width → ℕ
modulus w = 2 ^ bits w

-- a number of the width
abbrev pub IsOfWidth : Width → ℕ → Type 0
IsOfWidth w n = n < modulus w

-- the upper half of the numbers of a width stands for those below zero
abbrev pub is_negative : Width → ℕ → Bool
is_negative w n = nat_le (2 ^ (bits w - 1)) n

-- the number that stands for the one below zero
abbrev pub negated : Width → ℕ → ℕ
negated w n = (modulus w - n) % modulus w

-- how far a number is from zero
abbrev pub magnitude : Width → ℕ → ℕ
magnitude w n = if is_negative w n then modulus w - n else n

-- one of the two holds and the other does not
abbrev pub differ : Bool → Bool → Bool
differ true b = not b
differ false b = b

-- no number can be divided by this one
abbrev pub divides_by_zero : ℕ → Bool
divides_by_zero b = nat_eq b 0

-- the least signed number divided by -1, which has no quotient of its width
abbrev pub overflows : Width → ℕ → ℕ → Bool
overflows w a b = nat_eq a (2 ^ (bits w - 1)) && nat_eq b (modulus w - 1)

-- towards zero
abbrev pub signed_quotient : Width → ℕ → ℕ → ℕ
signed_quotient w a b =
    let q = magnitude w a / magnitude w b in
    if differ (is_negative w a) (is_negative w b) then negated w q else q

-- with the sign of the first
abbrev pub signed_remainder : Width → ℕ → ℕ → ℕ
signed_remainder w a b =
    let r = magnitude w a % magnitude w b in
    if is_negative w a then negated w r else r

-- a shift to the right that keeps the sign: the complement of the complement's shift
abbrev pub sign_shifted : Width → ℕ → ℕ → ℕ
sign_shifted w a by = if is_negative w a then (modulus w - 1 - (modulus w - 1 - a) / 2 ^ by) else a / 2 ^ by

-- a result, unless the division has none
abbrev pub or_divide : Bool → ℕ → Answer ℕ
or_divide wrong n = if wrong then Err Divide else Ok n

-- the result of an operation on two numbers of a width; shift amounts count modulo the width
abbrev pub binary : BinOp → Width → ℕ → ℕ → Answer ℕ
binary Add w a b = Ok ((a + b) % modulus w)
binary Sub w a b = Ok ((a + (modulus w - b)) % modulus w)
binary Mul w a b = Ok (a * b % modulus w)
binary Udiv w a b = or_divide (divides_by_zero b) (a / b)
binary Sdiv w a b = if divides_by_zero b then Err Divide else or_divide (overflows w a b) (signed_quotient w a b)
binary Urem w a b = or_divide (divides_by_zero b) (a % b)
binary Srem w a b = if divides_by_zero b then Err Divide else or_divide (overflows w a b) (signed_remainder w a b)
binary Shl w a b = Ok (a * 2 ^ (b % bits w) % modulus w)
binary Lshr w a b = Ok (a / 2 ^ (b % bits w))
binary Ashr w a b = Ok (sign_shifted w a (b % bits w))
binary And w a b = Ok (bit_and a b)
binary Or w a b = Ok (bit_or a b)
binary Xor w a b = Ok (bit_xor a b)

-- signed numbers are in the order of these
abbrev pub biased : Width → ℕ → ℕ
biased w n = (n + 2 ^ (bits w - 1)) % modulus w

-- what a comparison of two numbers of a width says
abbrev pub compared : Pred → Width → ℕ → ℕ → Bool
compared Eq w a b = nat_eq a b
compared Ne w a b = not (nat_eq a b)
compared Ult w a b = nat_lt a b
compared Ule w a b = nat_le a b
compared Ugt w a b = nat_lt b a
compared Uge w a b = nat_le b a
compared Slt w a b = nat_lt (biased w a) (biased w b)
compared Sle w a b = nat_le (biased w a) (biased w b)
compared Sgt w a b = nat_lt (biased w b) (biased w a)
compared Sge w a b = nat_le (biased w b) (biased w a)

-- from one width to another
abbrev pub cast : CastOp → Width → Width → ℕ → ℕ
cast Trunc from to n = n % modulus to
cast Zext from to n = n % modulus to
cast Sext from to n = (if is_negative from n then n + (modulus to - modulus from) else n) % modulus to
