-- Operands in registers: a variable is where it is, and what is known is brought there.
use Rattle.std.specs.Prelude.{ℕ, ◌+◌, List, [], ◌∷◌, ◌++◌, nat_eq, if◌then◌else◌}
use Rattle.rd_num.specs.declared.width.Width.TheVariants.{W64}
use Rattle.ir_core.specs.declared.instruction.Arg.{Arg}
use Rattle.ir_core.specs.declared.kind.Kind.{Kind}
use Rattle.ir_core.specs.declared.memory.Value.{Value}
use Rattle.ir_core.specs.declared.memory.Value.TheVariants.{Num, Null, At, Fun}
use Rattle.ir_core.specs.declared.module.Module.{Module}
use Rattle.ir_core.specs.declared.operand.Operand.{Operand}
use Rattle.ir_core.specs.Valid.{LocalKind, named_locals}
use Rattle.ir_context.specs.declared.origin.Origin.{Origin}
use Rattle.ir_context.specs.declared.origin.Origin.TheVariants.{Known, Register, Unset, Malformed}
use Rattle.ir_context.specs.Origins.{origin_of, arg_origin}
use Rattle.low_core.specs.declared.sel.SelAlu.TheVariants.{Add}
use Rattle.low_core.specs.declared.sel.SelOp.{SelOp}
use Rattle.low_core.specs.declared.sel.SelOp.TheVariants.{Set, Alu, GlobalAt, FunctionAt}
use Rattle.isel_rows.specs.Variables.{operand_register, bytes_register, argument_register, register_read}

-- operations, and the register that holds a word once they are done
pub record Brought : Type 0 where
  pub ops : List SelOp
  pub register : ℕ

-- the address of a global, and so many bytes on
abbrev pub place_ops : List LocalKind → ℕ → ℕ → ℕ → List SelOp
place_ops vs r g by = if nat_eq by 0 then GlobalAt r g ∷ [] else GlobalAt r g ∷ Set (bytes_register vs) by ∷ Alu Add W64 r r (bytes_register vs) ∷ []

-- the word of a value into a register
abbrev pub value_ops : List LocalKind → ℕ → Value → List SelOp
value_ops vs r (Num w n) = Set r n ∷ []
value_ops vs r Null = Set r 0 ∷ []
value_ops vs r (At g by) = place_ops vs r g by
value_ops vs r (Fun f) = FunctionAt r f ∷ []

-- the word of an origin, in a register of its own where it is known
abbrev pub brought : List LocalKind → ℕ → Origin → Brought
brought vs r (Known v) = record { ops = value_ops vs r v; register = r }
brought vs r (Register k) = record { ops = []; register = k }
brought vs r Unset = record { ops = []; register = register_read vs Unset }
brought vs r Malformed = record { ops = []; register = register_read vs Malformed }

-- an operand of a kind, the k-th of its instruction
abbrev pub operand_brought : Module → List LocalKind → ℕ → Kind → Operand → Brought
operand_brought m vs k kind a = brought vs (operand_register vs k) (origin_of m (named_locals vs) kind a)

-- operations, and the registers that hold words once they are done
pub record AllBrought : Type 0 where
  pub ops : List SelOp
  pub registers : List ℕ

-- arguments from the k-th on
abbrev pub args_brought : Module → List LocalKind → ℕ → List Arg → AllBrought
args_brought m vs k [] = record { ops = []; registers = [] }
args_brought m vs k (a ∷ as') =
    let first = brought vs (argument_register vs k) (arg_origin m (named_locals vs) a) in
    let others = args_brought m vs (k + 1) as' in
    record { ops = first.ops ++ others.ops; registers = first.register ∷ others.registers }
