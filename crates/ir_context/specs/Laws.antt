-- When origins and paths give what operands and moves of pointers give.
use Rattle.std.specs.Prelude.{◌≡◌, ℕ, List, map, Option, Some}
use Rattle.ir_core.specs.declared.ty.Ty.{Ty}
use Rattle.ir_core.specs.declared.operand.Operand.{Operand}
use Rattle.ir_core.specs.declared.instruction.Arg.{Arg}
use Rattle.ir_core.specs.declared.instruction.Op.TheVariants.{Gep}
use Rattle.ir_core.specs.declared.module.Module.{Module}
use Rattle.ir_core.specs.declared.memory.Value.{Value}
use Rattle.ir_core.specs.declared.kind.Kind.{Kind}
use Rattle.ir_core.specs.declared.kind.Kind.TheVariants.{Pointer}
use Rattle.ir_core.specs.Memory.{Memory}
use Rattle.ir_core.specs.State.{Local}
use Rattle.ir_core.specs.Operands.{value_of}
use Rattle.ir_core.specs.Step.{result_of}
use Rattle.ir_context.specs.declared.path.Path.{Path}
use Rattle.ir_context.specs.Registers.{StandFor}
use Rattle.ir_context.specs.Origins.{origin_of, arg_origin}
use Rattle.ir_context.specs.Paths.{path_of}
use Rattle.ir_context.specs.Reads.{origin_value, moved_along}

-- an operand of a kind has the value of its origin, where registers stand for locals
abbrev pub ReadsAsOrigin : Module → List (List ℕ) → Kind → Operand → Type 0
ReadsAsOrigin m names kind operand =
    (registers : List (Option Value)) (locals : List Local) → StandFor names registers locals → origin_value registers (origin_of m names kind operand) ≡ value_of m locals kind operand

-- indices have a path, and a pointer moves along it
pub record MovesAlong (m : Module) (names : List (List ℕ)) (ty : Ty) (pointer : Operand) (indices : List Arg) : Type 0 where
  pub path : Path
  pub is : path_of m.types ty (map (arg_origin m names) indices) ≡ Some path
  pub moves : (objects : Memory) (registers : List (Option Value)) (locals : List Local) → StandFor names registers locals
      → moved_along registers (origin_of m names Pointer pointer) path ≡ result_of m objects locals (Gep ty pointer indices)
