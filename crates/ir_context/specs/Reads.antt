-- What origins and paths give in a run.
use Rattle.std.specs.Prelude.{◌≡◌, ℕ, ◌+◌, ◌*◌, ◌<◌, ◌^◌, List, [], ◌∷◌, Option, Ok, Err}
use Rattle.rd_num.specs.Number.{bits}
use Rattle.ir_core.specs.declared.operand.Operand.{Operand}
use Rattle.ir_core.specs.declared.operand.Operand.TheVariants.{Const}
use Rattle.ir_core.specs.declared.instruction.Arg.{Arg}
use Rattle.ir_core.specs.declared.module.Module.{Module}
use Rattle.ir_core.specs.declared.memory.Value.{Value}
use Rattle.ir_core.specs.declared.memory.Value.TheVariants.{Num}
use Rattle.ir_core.specs.declared.memory.Reason.TheVariants.{Unset as UnsetReason}
use Rattle.ir_core.specs.Stops.{Left, Answer, and_then, found_or}
use Rattle.ir_core.specs.Stops as stop
use Rattle.ir_core.specs.Pointers.{moved_pointer}
use Rattle.ir_core.specs.Operands.{index_word, constant_place}
use Rattle.ir_context.specs.Registers.{register}
use Rattle.ir_context.specs.declared.origin.Origin.{Origin}
use Rattle.ir_context.specs.declared.origin.Origin.TheVariants.{Known, Register, Unset, Malformed}
use Rattle.ir_context.specs.Origins.{constant_origin}
use Rattle.ir_context.specs.declared.path.Path.{Path}
use Rattle.ir_context.specs.declared.path.Stride.{Stride}

-- the value that comes from there
abbrev pub origin_value : List (Option Value) → Origin → Answer Value
origin_value registers (Known v) = Ok v
origin_value registers (Register k) = found_or (Left UnsetReason) (register registers k)
origin_value registers Unset = Err (Left UnsetReason)
origin_value registers Malformed = Err stop.Malformed

-- the values of the indices of strides, the first one read first
abbrev pub stride_values : List (Option Value) → List Stride → Answer (List Value)
stride_values registers [] = Ok []
stride_values registers (s ∷ ss) = and_then (origin_value registers s.index) (λ v. and_then (stride_values registers ss) (λ vs. Ok (v ∷ vs)))

-- bytes of strides whose indices have these values
abbrev pub stride_bytes : List Stride → List Value → Answer ℕ
stride_bytes [] vs = Ok 0
stride_bytes (s ∷ ss) [] = Err stop.Malformed
stride_bytes (s ∷ ss) (v ∷ vs) = and_then (index_word v) (λ n. and_then (stride_bytes ss vs) (λ by. Ok (n * s.size + by)))

-- a pointer along a path: all indices are read before any is a number
abbrev pub moved_along : List (Option Value) → Origin → Path → Answer Value
moved_along registers base p =
    and_then (origin_value registers base) (λ x. and_then (stride_values registers p.strides) (λ vs. and_then (stride_bytes p.strides vs) (λ by. moved_pointer (p.constant + by) x)))

-- a constant place has the value of its origin
abbrev pub IsPlaced : Module → Operand → Type 0
IsPlaced m (Const place) = (registers : List (Option Value)) → constant_place m place ≡ origin_value registers (constant_origin m place)
IsPlaced m other = Unit {0}

-- values, the first one read first
abbrev pub origin_values : List (Option Value) → List Origin → Answer (List Value)
origin_values registers [] = Ok []
origin_values registers (o ∷ os) = and_then (origin_value registers o) (λ v. and_then (origin_values registers os) (λ vs. Ok (v ∷ vs)))

-- a number is one of its width
abbrev pub IsWideValue : Value → Type 0
IsWideValue (Num w n) = n < 2 ^ bits w
IsWideValue other = Unit {0}

-- a number that is known is one of its width
abbrev pub IsWide : Origin → Type 0
IsWide (Known v) = IsWideValue v
IsWide other = Unit {0}

-- all of them
abbrev pub AreWide : List Origin → Type 0
AreWide [] = Unit {0}
AreWide (o ∷ os) = IsWide o × AreWide os

-- all constant places among arguments or indices have
abbrev pub ArePlaced : Module → List Arg → Type 0
ArePlaced m [] = Unit {0}
ArePlaced m (a ∷ as') = IsPlaced m a.value × ArePlaced m as'
