-- What a type says of a value, and literals as numbers of a width.
use Rattle.std.specs.Prelude.{ℕ, ◌+◌, ◌-◌, ◌%◌, ◌^◌, Bool, true, false, nat_eq, nat_lt, if◌then◌else◌, ℤ, pos, negsuc, Ok, Err}
pub use Rattle.ir_core.specs.declared.kind.Kind.{Kind}
pub use Rattle.ir_core.specs.declared.kind.Kind.TheVariants.{NoValue, Number, Pointer}
use Rattle.rd_num.specs.declared.width.Width.{Width}
use Rattle.rd_num.specs.declared.width.Width.TheVariants.{W1}
use Rattle.rd_num.specs.Number.{bits}
use Rattle.ir_core.specs.declared.ty.Ty.{Ty, out-Ty}
use Rattle.ir_core.specs.declared.ty.Ty.TheOpen.{Ty-F}
use Rattle.ir_core.specs.declared.memory.Value.{Value}
use Rattle.ir_core.specs.declared.memory.Value.TheVariants.{Num, Null}
use Rattle.ir_core.specs.Stops.{Answer, Malformed}

-- by the outermost word of the type
abbrev pub kind_at : Ty-F Ty → Kind
kind_at Ty-F.Void = NoValue
kind_at (Ty-F.Int w) = Number w
kind_at Ty-F.Ptr = Pointer
kind_at (Ty-F.Array n of) = NoValue
kind_at (Ty-F.Struct fields) = NoValue
kind_at (Ty-F.Packed fields) = NoValue
kind_at (Ty-F.Named name) = NoValue

-- the kind of a type
abbrev pub kind_of : Ty → Kind
kind_of ty = kind_at (out-Ty ty)

-- kinds are the same where they are of one width, or both pointers, or both nothing
abbrev pub same_kind : Kind → Kind → Bool
same_kind NoValue NoValue = true
same_kind (Number v) (Number w) = nat_eq (bits v) (bits w)
same_kind Pointer Pointer = true
same_kind NoValue (Number w) = false
same_kind NoValue Pointer = false
same_kind (Number v) NoValue = false
same_kind (Number v) Pointer = false
same_kind Pointer NoValue = false
same_kind Pointer (Number w) = false

-- the number of a width that a literal stands for: two's complement below zero
abbrev pub literal : Width → ℤ → ℕ
literal w (pos n) = n % 2 ^ bits w
literal w (negsuc n) = 2 ^ bits w - 1 - n % 2 ^ bits w

-- a number of a width as a signed one, modulo 2^64
abbrev pub signed_word : Width → ℕ → ℕ
signed_word w n = if nat_lt n (2 ^ (bits w - 1)) then n else (n + (2 ^ 64 - 2 ^ bits w))

-- a truth value as a number of one bit
abbrev pub truth : Bool → Value
truth holds = if holds then Num W1 1 else Num W1 0

-- zeros, as undef and poison are read
abbrev pub zero_of : Kind → Answer Value
zero_of NoValue = Err Malformed
zero_of (Number w) = Ok (Num w 0)
zero_of Pointer = Ok Null
