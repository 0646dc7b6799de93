-- The registers of a function: one for each variable, and behind them those that words pass through.
use Rattle.std.specs.Prelude.{ℕ, ◌+◌, List, [], ◌∷◌, ◌++◌, length, slice_get, Option, Some, None, if◌then◌else◌}
use Rattle.rd_num.specs.declared.width.Width.{Width}
use Rattle.rd_num.specs.declared.width.Width.TheVariants.{W64}
use Rattle.ir_core.specs.declared.kind.Kind.{Kind}
use Rattle.ir_core.specs.declared.kind.Kind.TheVariants.{NoValue, Number, Pointer}
use Rattle.ir_core.specs.declared.limit.TheConstants.{REGISTER_PARAMETERS}
use Rattle.ir_core.specs.declared.module.Function.{Function}
use Rattle.ir_core.specs.Counts.{stack_arguments}
use Rattle.ir_core.specs.Definitions.{is_among}
use Rattle.ir_core.specs.Valid.{LocalKind, locals_of}
use Rattle.ir_context.specs.declared.origin.Origin.{Origin}
use Rattle.ir_context.specs.declared.origin.Origin.TheVariants.{Known, Register, Unset, Malformed}

-- locals without those of a name that stands in front of them, in the list or among others
abbrev pub first_of_each : List (List ℕ) → List LocalKind → List LocalKind
first_of_each before [] = []
first_of_each before (l ∷ ls) = if is_among before l.name then first_of_each before ls else l ∷ first_of_each (before ++ l.name ∷ []) ls

-- the variables of a function, its parameters first: a variable has the register of its place
abbrev pub variables_of : Function → List LocalKind
variables_of f = first_of_each [] (locals_of f)

-- an operand that is known is brought into one of three registers behind the variables
abbrev pub operand_register : List LocalKind → ℕ → ℕ
operand_register vs k = length vs + k

-- how far a place lies from the start of its global, or how many bytes lie between what an index counts
abbrev pub bytes_register : List LocalKind → ℕ
bytes_register vs = length vs + 3

-- an index, widened
abbrev pub index_register : List LocalKind → ℕ
index_register vs = length vs + 4

-- a pointer that moves
abbrev pub moved_register : List LocalKind → ℕ
moved_register vs = length vs + 5

-- a result without a name
abbrev pub idle_register : List LocalKind → ℕ
idle_register vs = length vs + 6

-- one that is never assigned
abbrev pub unset_register : List LocalKind → ℕ
unset_register vs = length vs + 7

-- an argument of a call, by its number
abbrev pub argument_register : List LocalKind → ℕ → ℕ
argument_register vs k = length vs + 8 + k

-- all of them, with as many for arguments as any call of the function has, and never fewer than stay in registers
abbrev pub registers_count : List LocalKind → Function → ℕ
registers_count vs f = length vs + 8 + REGISTER_PARAMETERS + stack_arguments f

-- the register that an origin names; without one it is that which is never assigned
abbrev pub register_read : List LocalKind → Origin → ℕ
register_read vs (Register k) = k
register_read vs (Known v) = unset_register vs
register_read vs Unset = unset_register vs
register_read vs Malformed = unset_register vs

-- a number, where there is one, and else that of the first
abbrev pub number_or_first : Option ℕ → ℕ
number_or_first (Some n) = n
number_or_first None = 0

-- the width of a kind's word
abbrev pub width_of : Kind → Width
width_of (Number w) = w
width_of Pointer = W64
width_of NoValue = W64

abbrev pub width_in : Option LocalKind → Width
width_in (Some l) = width_of l.kind
width_in None = W64

-- the width of what an origin has, where it is a variable
abbrev pub width_read : List LocalKind → Origin → Width
width_read vs (Register k) = width_in (slice_get vs k)
width_read vs (Known v) = W64
width_read vs Unset = W64
width_read vs Malformed = W64
