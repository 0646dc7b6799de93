-- Results of arithmetic are numbers of their width.
use Rattle.std.proofs.Common.{◌≡◌, ℕ, ◌+◌, ◌*◌, ◌-◌, ◌/◌, ◌%◌, ◌^◌, ◌<◌, ◌≤◌, Bool, true, false, if◌then◌else◌, Ok, Err, refl, subst, arith}
use Rattle.std.specs.Prelude.{ℤ, pos, negsuc, bit_and}
use Rattle.std.proofs.Math.Nat.{mod-lt, mod-le, div-le_self}
use Rattle.std.proofs.lemmas.Nat.{pow_pos, and_le_l, or_lt, xor_lt}
use Rattle.std.proofs.lemmas.Bool.{leb-true}
use Rattle.rd_num.specs.declared.width.Width.{Width}
use Rattle.rd_num.specs.Number.{bits}
use Rattle.ir_core.specs.declared.instruction.BinOp.{BinOp}
use Rattle.ir_core.specs.declared.instruction.BinOp.TheVariants.{Add, Sub, Mul, Udiv, Sdiv, Urem, Srem, Shl, Lshr, Ashr, And, Or, Xor}
use Rattle.ir_core.specs.declared.instruction.CastOp.{CastOp}
use Rattle.ir_core.specs.declared.instruction.CastOp.TheVariants.{Trunc, Zext, Sext}
use Rattle.ir_core.specs.Stops.{Divide, Answer}
use Rattle.ir_core.specs.Kinds.{literal}
use Rattle.ir_core.specs.Arithmetic.{modulus, IsOfWidth, is_negative, negated, magnitude, differ, signed_quotient, signed_remainder, sign_shifted, divides_by_zero, overflows, or_divide, binary, cast}

-- a remainder by a width is a number of it
reduced : (w : Width) (n : ℕ) → IsOfWidth w (n % modulus w)
reduced w n = mod-lt n (pow_pos (bits w))

-- of the answers that a choice gives, each fits
if_fits : (b : Bool) (w : Width) (x y : ℕ) → IsOfWidth w x → IsOfWidth w y → IsOfWidth w (if b then x else y)
if_fits true w x y p q = p
if_fits false w x y p q = q

-- an answer has one value
ok_is : (n k : ℕ) → let x : Answer ℕ = Ok n in x ≡ Ok k → n ≡ k
ok_is n k e = cc

-- what a division answers fits where its value does
or_divide_fits : (b : Bool) (w : Width) (n k : ℕ) → IsOfWidth w n → or_divide b n ≡ Ok k → IsOfWidth w k
or_divide_fits true w n k fits e = absurd (cc)
or_divide_fits false w n k fits e = subst (IsOfWidth w) (ok_is n k e) fits

-- also where a test comes first
if_divide_fits : (b : Bool) (w : Width) (r : Answer ℕ) (k : ℕ) → (r ≡ Ok k → IsOfWidth w k) → (if b then Err Divide else r) ≡ Ok k → IsOfWidth w k
if_divide_fits true w r k fits e = absurd (cc)
if_divide_fits false w r k fits e = fits e

-- a number that is not below half is less than the whole away from it
above : (half m a : ℕ) → 0 < half → half ≤ a → a < m → m - a < m
above half m a p q r = omega arith

-- the distance from zero of a number of a width is one of that width
magnitude_fits : (w : Width) (a : ℕ) → IsOfWidth w a → IsOfWidth w (magnitude w a)
magnitude_fits w a fits = of_bool (is_negative w a) refl
  where
    of_bool : (b : Bool) → is_negative w a ≡ b → IsOfWidth w (if b then modulus w - a else a)
    of_bool true e = above (2 ^ (bits w - 1)) (modulus w) a (pow_pos (bits w - 1)) (leb-true (2 ^ (bits w - 1)) a e) fits
    of_bool false e = fits

-- what is no greater fits too
smaller_fits : (w : Width) (n m : ℕ) → n ≤ m → IsOfWidth w m → IsOfWidth w n
smaller_fits w n m le fits = omega arith

-- a signed quotient fits
quotient_fits : (w : Width) (a b : ℕ) → IsOfWidth w a → IsOfWidth w (signed_quotient w a b)
quotient_fits w a b fits =
    let q = magnitude w a / magnitude w b in
    if_fits (differ (is_negative w a) (is_negative w b)) w (negated w q) q (reduced w (modulus w - q))
    (smaller_fits w q (magnitude w a) (div-le_self (magnitude w a) (magnitude w b)) (magnitude_fits w a fits))

-- a signed remainder fits
remainder_fits : (w : Width) (a b : ℕ) → IsOfWidth w a → IsOfWidth w (signed_remainder w a b)
remainder_fits w a b fits =
    let r = magnitude w a % magnitude w b in
    if_fits (is_negative w a) w (negated w r) r (reduced w (modulus w - r))
    (smaller_fits w r (magnitude w a) (mod-le (magnitude w a) (magnitude w b)) (magnitude_fits w a fits))

-- a complement is below the whole
complement_fits : (m n : ℕ) → 0 < m → m - 1 - n < m
complement_fits m n p = omega arith

-- a number that was shifted with its sign fits
shifted_fits : (w : Width) (a by : ℕ) → IsOfWidth w a → IsOfWidth w (sign_shifted w a by)
shifted_fits w a by fits =
    let up = (modulus w - 1 - a) / 2 ^ by in
    if_fits (is_negative w a) w (modulus w - 1 - up) (a / 2 ^ by) (complement_fits (modulus w) up (pow_pos (bits w)))
    (smaller_fits w (a / 2 ^ by) a (div-le_self a (2 ^ by)) fits)

-- the result of an operation on numbers of a width is one of that width
pub binary_fits : (op : BinOp) (w : Width) (a b n : ℕ) → IsOfWidth w a → IsOfWidth w b → binary op w a b ≡ Ok n → IsOfWidth w n
binary_fits Add w a b n fa fb e = subst (IsOfWidth w) (ok_is _ n e) (reduced w (a + b))
binary_fits Sub w a b n fa fb e = subst (IsOfWidth w) (ok_is _ n e) (reduced w (a + (modulus w - b)))
binary_fits Mul w a b n fa fb e = subst (IsOfWidth w) (ok_is _ n e) (reduced w (a * b))
binary_fits Udiv w a b n fa fb e = or_divide_fits (divides_by_zero b) w (a / b) n (smaller_fits w (a / b) a (div-le_self a b) fa) e
binary_fits Sdiv w a b n fa fb e =
    if_divide_fits (divides_by_zero b) w (or_divide (overflows w a b) (signed_quotient w a b)) n
    (or_divide_fits (overflows w a b) w (signed_quotient w a b) n (quotient_fits w a b fa)) e
binary_fits Urem w a b n fa fb e = or_divide_fits (divides_by_zero b) w (a % b) n (smaller_fits w (a % b) a (mod-le a b) fa) e
binary_fits Srem w a b n fa fb e =
    if_divide_fits (divides_by_zero b) w (or_divide (overflows w a b) (signed_remainder w a b)) n
    (or_divide_fits (overflows w a b) w (signed_remainder w a b) n (remainder_fits w a b fa)) e
binary_fits Shl w a b n fa fb e = subst (IsOfWidth w) (ok_is _ n e) (reduced w (a * 2 ^ (b % bits w)))
binary_fits Lshr w a b n fa fb e = subst (IsOfWidth w) (ok_is _ n e) (smaller_fits w (a / 2 ^ (b % bits w)) a (div-le_self a (2 ^ (b % bits w))) fa)
binary_fits Ashr w a b n fa fb e = subst (IsOfWidth w) (ok_is _ n e) (shifted_fits w a (b % bits w) fa)
binary_fits And w a b n fa fb e = subst (IsOfWidth w) (ok_is _ n e) (smaller_fits w (bit_and a b) a (and_le_l a b) fa)
binary_fits Or w a b n fa fb e = subst (IsOfWidth w) (ok_is _ n e) (or_lt (bits w) a b fa fb)
binary_fits Xor w a b n fa fb e = subst (IsOfWidth w) (ok_is _ n e) (xor_lt (bits w) a b fa fb)

-- so is what a cast gives
pub cast_fits : (op : CastOp) (from to : Width) (n : ℕ) → IsOfWidth to (cast op from to n)
cast_fits Trunc from to n = reduced to n
cast_fits Zext from to n = reduced to n
cast_fits Sext from to n = reduced to (if is_negative from n then n + (modulus to - modulus from) else n)

-- and what a literal stands for
pub literal_fits : (w : Width) (n : ℤ) → IsOfWidth w (literal w n)
literal_fits w (pos n) = reduced w n
literal_fits w (negsuc n) = complement_fits (modulus w) (n % modulus w) (pow_pos (bits w))
