-- What operands are in a call is what comes from where they are read.
use Rattle.std.proofs.Common.{◌≡◌, ℕ, List, Option, Some, None, refl, ap, ◌∙◌}
use Rattle.std.specs.Prelude.{ℤ, option_and_then}
use Rattle.ir_core.specs.declared.operand.Operand.{Operand}
use Rattle.ir_core.specs.declared.operand.Operand.TheVariants.{Int, Bool as Truth, Null as NullWord, Undef, Poison, Local as LocalName, Global, Const}
use Rattle.ir_core.specs.declared.module.Module.{Module}
use Rattle.ir_core.specs.declared.memory.Value.{Value}
use Rattle.ir_core.specs.declared.memory.Reason.TheVariants.{Unset as UnsetReason}
use Rattle.ir_core.specs.Stops.{Left, found_or}
use Rattle.ir_core.specs.declared.kind.Kind.{Kind}
use Rattle.ir_core.specs.declared.kind.Kind.TheVariants.{NoValue, Number, Pointer}
use Rattle.ir_core.specs.Kinds.{zero_of}
use Rattle.ir_core.specs.State.{Local}
use Rattle.ir_core.specs.Operands.{local_value, global_number, function_number, named_value, int_value, value_of}
use Rattle.ir_context.specs.Registers.{register, number_of, StandFor}
use Rattle.ir_context.specs.Origins.{known, register_of, origin_of}
use Rattle.ir_context.specs.Reads.{origin_value, IsPlaced}

-- a literal
int_read : (registers : List (Option Value)) (kind : Kind) (n : ℤ) → int_value kind n ≡ origin_value registers (known (int_value kind n))
int_read registers NoValue n = refl
int_read registers (Number w) n = refl
int_read registers Pointer n = refl

-- zeros
zero_read : (registers : List (Option Value)) (kind : Kind) → zero_of kind ≡ origin_value registers (known (zero_of kind))
zero_read registers NoValue = refl
zero_read registers (Number w) = refl
zero_read registers Pointer = refl

-- a global or a function
named_read : (registers : List (Option Value)) (g f : Option ℕ) → named_value g f ≡ origin_value registers (known (named_value g f))
named_read registers (Some g) f = refl
named_read registers None (Some f) = refl
named_read registers None None = refl

-- a local
register_read : (registers : List (Option Value)) (o : Option ℕ) → found_or (Left UnsetReason) (option_and_then (register registers) o) ≡ origin_value registers (register_of o)
register_read registers None = refl
register_read registers (Some k) = refl

module _ (m : Module) (names : List (List ℕ)) (registers : List (Option Value)) (locals : List Local) (stand : StandFor names registers locals) where
  -- a local by its name
  local_read : (name : List ℕ) → local_value locals name ≡ origin_value registers (register_of (number_of names name))
  local_read name = ap (found_or (Left UnsetReason)) (stand name) ∙ register_read registers (number_of names name)

  -- an operand
  pub value_read : (kind : Kind) (a : Operand) → IsPlaced m a → value_of m locals kind a ≡ origin_value registers (origin_of m names kind a)
  value_read kind (Int n) placed = int_read registers kind n
  value_read kind (Truth b) placed = refl
  value_read kind NullWord placed = refl
  value_read kind Undef placed = zero_read registers kind
  value_read kind Poison placed = zero_read registers kind
  value_read kind (LocalName name) placed = local_read name
  value_read kind (Global name) placed = named_read registers (global_number m name) (function_number m name)
  value_read kind (Const place) placed = placed registers
