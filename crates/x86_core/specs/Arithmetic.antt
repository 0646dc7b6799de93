-- What operations do to numbers and flags, over whole numbers and remainders.
use Rattle.std.specs.Prelude.{ℕ, suc, ◌+◌, ◌-◌, ◌*◌, ◌/◌, ◌%◌, ◌^◌, Bool, true, false, nat_eq, nat_lt, nat_le, not, ◌&&◌, ◌||◌, if◌then◌else◌, ℤ, pos, negsuc, bit_and, bit_or, bit_xor, Option, Some, None}
use Rattle.x86_core.specs.declared.flags.Flag.{Flag}
use Rattle.x86_core.specs.declared.flags.Flag.TheVariants.{Zero, One, Unknown}
use Rattle.x86_core.specs.declared.flags.Flags.{Flags}
use Rattle.x86_core.specs.declared.instr.Wide.{Wide}
use Rattle.x86_core.specs.declared.instr.Size.{Size}
use Rattle.x86_core.specs.declared.instr.HighSize.{HighSize}
use Rattle.x86_core.specs.declared.instr.AluOp.{AluOp}
use Rattle.x86_core.specs.declared.instr.AluOp.TheVariants.{Add, Or, And, Sub, Xor, Cmp, Test}
use Rattle.x86_core.specs.declared.instr.ImmOp.{ImmOp}
use Rattle.x86_core.specs.declared.instr.ShiftOp.{ShiftOp}
use Rattle.x86_core.specs.declared.instr.ShiftOp.TheVariants.{Shl, Shr, Sar}
use Rattle.x86_core.specs.declared.instr.WidenKind.{WidenKind}
use Rattle.x86_core.specs.declared.instr.WidenKind.TheVariants.{Zero8, Zero16, Sign8, Sign16, Sign32}
use Rattle.x86_core.specs.declared.instr.Cond.{Cond}
use Rattle.x86_core.specs.declared.divide.Division.{Division}

-- the bits of an operation on registers
abbrev pub wide_bits : Wide → ℕ
wide_bits Wide.W32 = 32
wide_bits Wide.W64 = 64

-- the bits of a division, a load or a store
abbrev pub size_bits : Size → ℕ
size_bits Size.W8 = 8
size_bits Size.W16 = 16
size_bits Size.W32 = 32
size_bits Size.W64 = 64

-- the bits of the number whose sign fills a register
abbrev pub high_bits : HighSize → ℕ
high_bits HighSize.W16 = 16
high_bits HighSize.W32 = 32
high_bits HighSize.W64 = 64

-- the low bits of a number
abbrev pub low : ℕ → ℕ → ℕ
low bits n = n % 2 ^ bits

-- the sign bit of a number of so many bits
abbrev pub is_negative : ℕ → ℕ → Bool
is_negative bits n = nat_le (2 ^ (bits - 1)) n

-- the low bits with the sign above them, in 64 bits
abbrev pub sign_extended : ℕ → ℕ → ℕ
sign_extended bits n = if nat_lt (n % 2 ^ bits) (2 ^ (bits - 1)) then n % 2 ^ bits else n % 2 ^ bits + (2 ^ 64 - 2 ^ bits)

-- a register's word after a result of this size: 32 bits clear the upper half, 8 and 16 keep the rest
abbrev pub kept : Size → ℕ → ℕ → ℕ
kept Size.W8 old n = old / 2 ^ 8 * 2 ^ 8 + n
kept Size.W16 old n = old / 2 ^ 16 * 2 ^ 16 + n
kept Size.W32 old n = n
kept Size.W64 old n = n

-- a number moved by a displacement, modulo 2^64
abbrev pub moved : ℕ → ℤ → ℕ
moved n (pos k) = (n + k) % 2 ^ 64
moved n (negsuc k) = (n + 2 ^ 64 - suc k) % 2 ^ 64

-- a signed constant as a number of 64 bits
abbrev pub constant : ℤ → ℕ
constant (pos k) = k
constant (negsuc k) = 2 ^ 64 - suc k

-- a flag that a test decides
abbrev pub flag_if : Bool → Flag
flag_if b = if b then One else Zero

-- whether two tests disagree
abbrev pub differ : Bool → Bool → Bool
differ true b = not b
differ false b = b

-- the result of an operation on numbers of so many bits
abbrev pub alu_result : AluOp → ℕ → ℕ → ℕ → ℕ
alu_result Add bits a b = (a + b) % 2 ^ bits
alu_result Or bits a b = bit_or a b
alu_result And bits a b = bit_and a b
alu_result Sub bits a b = (a + 2 ^ bits - b) % 2 ^ bits
alu_result Xor bits a b = bit_xor a b
alu_result Cmp bits a b = (a + 2 ^ bits - b) % 2 ^ bits
alu_result Test bits a b = bit_and a b

-- the carry of a sum, the borrow of a difference
abbrev pub carry : AluOp → ℕ → ℕ → ℕ → Bool
carry Add bits a b = nat_le (2 ^ bits) (a + b)
carry Or bits a b = false
carry And bits a b = false
carry Sub bits a b = nat_lt a b
carry Xor bits a b = false
carry Cmp bits a b = nat_lt a b
carry Test bits a b = false

-- whether the signed result doesn't fit, by the three signs
abbrev pub overflow : AluOp → ℕ → ℕ → ℕ → ℕ → Bool
overflow Add bits a b r = not (differ (is_negative bits a) (is_negative bits b)) && differ (is_negative bits a) (is_negative bits r)
overflow Or bits a b r = false
overflow And bits a b r = false
overflow Sub bits a b r = differ (is_negative bits a) (is_negative bits b) && differ (is_negative bits a) (is_negative bits r)
overflow Xor bits a b r = false
overflow Cmp bits a b r = differ (is_negative bits a) (is_negative bits b) && differ (is_negative bits a) (is_negative bits r)
overflow Test bits a b r = false

-- the four flags after an operation with this result
abbrev pub alu_flags : AluOp → ℕ → ℕ → ℕ → ℕ → Flags
alu_flags op bits a b r = record { c = flag_if (carry op bits a b); z = flag_if (nat_eq r 0); s = flag_if (is_negative bits r); o = flag_if (overflow op bits a b r) }

-- whether an operation writes its result
abbrev pub is_written : AluOp → Bool
is_written Add = true
is_written Or = true
is_written And = true
is_written Sub = true
is_written Xor = true
is_written Cmp = false
is_written Test = false

-- the operation on registers that an operation with a constant does
abbrev pub same_op : ImmOp → AluOp
same_op ImmOp.Add = Add
same_op ImmOp.Or = Or
same_op ImmOp.And = And
same_op ImmOp.Sub = Sub
same_op ImmOp.Xor = Xor
same_op ImmOp.Cmp = Cmp

-- the count of a shift: the low byte of a word, modulo the width
abbrev pub shift_count : ℕ → ℕ → ℕ
shift_count bits n = n % 2 ^ 8 % bits

-- a number of so many bits, shifted; from the right, or from the left with zeros or copies of the sign
abbrev pub shifted : ShiftOp → ℕ → ℕ → ℕ → ℕ
shifted Shl bits a by = a * 2 ^ by % 2 ^ bits
shifted Shr bits a by = a / 2 ^ by
shifted Sar bits a by = if nat_lt a (2 ^ (bits - 1)) then a / 2 ^ by else 2 ^ bits - 1 - (2 ^ bits - 1 - a) / 2 ^ by

-- the flags after a shift with this count and result: a count of 0 leaves them
abbrev pub shift_flags : ℕ → ℕ → ℕ → Flags → Flags
shift_flags bits by r flags = if nat_eq by 0 then flags else (record { c = Unknown; z = flag_if (nat_eq r 0); s = flag_if (is_negative bits r); o = Unknown })

-- four flags of which nothing is known
abbrev pub unknown_flags : Flags
unknown_flags = record { c = Unknown; z = Unknown; s = Unknown; o = Unknown }

-- how far a number of so many bits, read as a signed one, is from 0
abbrev pub magnitude : ℕ → ℕ → ℕ
magnitude bits n = if is_negative bits n then 2 ^ bits - n else n

-- the number of so many bits with this magnitude and this sign
abbrev pub with_sign : ℕ → Bool → ℕ → ℕ
with_sign bits negative n = if negative then (2 ^ bits - n) % 2 ^ bits else n

-- whether a signed number of so many bits has this magnitude and this sign
abbrev pub has_room : ℕ → Bool → ℕ → Bool
has_room bits negative n = if negative then nat_le n (2 ^ (bits - 1)) else nat_lt n (2 ^ (bits - 1))

-- a number of twice the width divided by one of the width, unless that is 0 or the quotient doesn't fit
abbrev pub unsigned_division : ℕ → ℕ → ℕ → Option Division
unsigned_division bits n by =
    if nat_eq by 0 then None else (if nat_lt (n / by) (2 ^ bits) then Some (record { quotient = n / by; remainder = n % by }) else None)

-- the same for signed numbers: the quotient is cut towards zero, and the remainder has the dividend's sign
abbrev pub signed_division : ℕ → ℕ → ℕ → Option Division
signed_division bits n by =
    let above = is_negative (2 * bits) n in
    let below = is_negative bits by in
    let a = magnitude (2 * bits) n in
    let b = magnitude bits by in
    if nat_eq by 0 then None else (if has_room bits (differ above below) (a / b) then Some (record { quotient = with_sign bits (differ above below) (a / b); remainder = with_sign bits above (a % b) }) else None)

-- either division
abbrev pub division : Bool → ℕ → ℕ → ℕ → Option Division
division true bits n by = signed_division bits n by
division false bits n by = unsigned_division bits n by

-- all ones below a negative number, all zeros below another
abbrev pub sign_fill : ℕ → ℕ → ℕ
sign_fill bits n = if is_negative bits (n % 2 ^ bits) then 2 ^ bits - 1 else 0

-- the low bits of a number, widened
abbrev pub widened : WidenKind → ℕ → ℕ
widened Zero8 n = n % 2 ^ 8
widened Zero16 n = n % 2 ^ 16
widened Sign8 n = sign_extended 8 n
widened Sign16 n = sign_extended 16 n
widened Sign32 n = sign_extended 32 n

-- whether a flag is set, where that is known
abbrev pub known : Flag → Option Bool
known Zero = Some false
known One = Some true
known Unknown = None

-- a test of one known flag
abbrev pub on_one : (Bool → Bool) → Option Bool → Option Bool
on_one f (Some a) = Some (f a)
on_one f None = None

-- a test of two flags, both of them known
abbrev pub on_two : (Bool → Bool → Bool) → Option Bool → Option Bool → Option Bool
on_two f (Some a) (Some b) = Some (f a b)
on_two f (Some a) None = None
on_two f None b = None

-- a test of three flags, all of them known
abbrev pub on_three : (Bool → Bool → Bool → Bool) → Option Bool → Option Bool → Option Bool → Option Bool
on_three f (Some a) b c = on_two (f a) b c
on_three f None b c = None

-- whether a condition holds; nothing where a flag that it names isn't known
abbrev pub holds : Cond → Flags → Option Bool
holds Cond.O f = known f.o
holds Cond.No f = on_one not (known f.o)
holds Cond.B f = known f.c
holds Cond.Ae f = on_one not (known f.c)
holds Cond.E f = known f.z
holds Cond.Ne f = on_one not (known f.z)
holds Cond.Be f = on_two (λ c z. c || z) (known f.c) (known f.z)
holds Cond.A f = on_two (λ c z. not (c || z)) (known f.c) (known f.z)
holds Cond.S f = known f.s
holds Cond.Ns f = on_one not (known f.s)
holds Cond.L f = on_two (λ s o. differ s o) (known f.s) (known f.o)
holds Cond.Ge f = on_two (λ s o. not (differ s o)) (known f.s) (known f.o)
holds Cond.Le f = on_three (λ z s o. z || differ s o) (known f.z) (known f.s) (known f.o)
holds Cond.G f = on_three (λ z s o. not (z || differ s o)) (known f.z) (known f.s) (known f.o)
