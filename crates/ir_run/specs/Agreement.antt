-- When the parts of a program give what the parts of its module give.
use Rattle.std.specs.Prelude.{ℕ, ◌≡◌, ◌*◌, List, [], ◌∷◌, map, slice_get, Option, Some}
use Rattle.rd_num.specs.declared.width.Width.TheVariants.{W1}
use Rattle.ir_core.specs.declared.instruction.Op.{Op}
use Rattle.ir_core.specs.declared.instruction.Op.TheVariants.{Alloca, Store, Call}
use Rattle.ir_core.specs.declared.instruction.Arg.{Arg}
use Rattle.ir_core.specs.declared.instruction.Case.{Case}
use Rattle.ir_core.specs.declared.instruction.Inst.{Inst}
use Rattle.ir_core.specs.declared.instruction.Term.{Term}
use Rattle.ir_core.specs.declared.instruction.Term.TheVariants.{Ret, RetValue, Br, BrIf, Switch, Unreachable}
use Rattle.ir_core.specs.declared.operand.Operand.{Operand}
use Rattle.ir_core.specs.declared.module.Block.{Block}
use Rattle.ir_core.specs.declared.module.Function.{Function}
use Rattle.ir_core.specs.declared.module.Module.{Module}
use Rattle.ir_core.specs.declared.memory.Value.{Value}
use Rattle.ir_core.specs.declared.kind.Kind.{Kind}
use Rattle.ir_core.specs.declared.kind.Kind.TheVariants.{Number, Pointer}
use Rattle.ir_core.specs.Kinds.{kind_of}
use Rattle.ir_core.specs.Counts.{told}
use Rattle.ir_core.specs.Memory.{Memory}
use Rattle.ir_core.specs.Shapes.{shape_of}
use Rattle.ir_core.specs.State.{Local}
use Rattle.ir_core.specs.Operands.{value_of, values_of}
use Rattle.ir_core.specs.Calls.{target_of}
use Rattle.ir_core.specs.Step.{Choice, choices_of, chosen, result_of}
use Rattle.ir_context.specs.Registers.{StandFor}
use Rattle.ir_context.specs.Extents.{extent_of}
use Rattle.ir_context.specs.Origins.{origin_of}
use Rattle.ir_program.specs.Actions.{into_of, callee_of, argument_of, action_of}
use Rattle.ir_program.specs.Exits.{move_of}
use Rattle.ir_program.specs.Programs.{register_names}
use Rattle.ir_context.specs.Reads.{origin_value}
use Rattle.ir_program.specs.Reads.{argument_values, callee_target}
use Rattle.ir_run.specs.Turns.{action_value}
use Rattle.ir_run.specs.Standing.{IntoStands}

-- an operand of a kind is read as its origin, where registers stand for locals
abbrev pub IsReadAs : Module → List (List ℕ) → Kind → Operand → Type 0
IsReadAs m names kind operand =
    (registers : List (Option Value)) (locals : List Local) → StandFor names registers locals → origin_value registers (origin_of m names kind operand) ≡ value_of m locals kind operand

-- an instruction gives the value of its action
abbrev pub GivesAs : Module → List (List ℕ) → Op → Type 0
GivesAs m names op =
    (objects : Memory) (registers : List (Option Value)) (locals : List Local) → StandFor names registers locals → action_value objects registers (action_of m names op) ≡ result_of m objects locals op

-- what a call reads
pub record CallsAs (m : Module) (names : List (List ℕ)) (callee : Operand) (arguments : List Arg) : Type 0 where
  pub target : (registers : List (Option Value)) (locals : List Local) → StandFor names registers locals → callee_target registers (callee_of m names callee) ≡ target_of m locals callee
  pub values : (registers : List (Option Value)) (locals : List Local) → StandFor names registers locals → argument_values registers (map (argument_of m names) arguments) ≡ values_of m locals arguments

-- an instruction does what its action does
abbrev pub ActsAs : Module → List (List ℕ) → Op → Type 0
ActsAs m names (Alloca ty count) = told (count * (extent_of m.types ty).size) ≡ count * (shape_of m.types ty).size
ActsAs m names (Store ty a p) = IsReadAs m names (kind_of ty) a × IsReadAs m names Pointer p
ActsAs m names (Call ret callee arguments) = CallsAs m names callee arguments
ActsAs m names op = GivesAs m names op

-- an instruction, whose local has a register
pub record InstAgrees (m : Module) (names : List (List ℕ)) (i : Inst) : Type 0 where
  pub into : IntoStands names (into_of names i.result) i.result
  pub acts : ActsAs m names i.op

-- a phi takes from a block what its move takes
pub record PhiAgrees (m : Module) (names : List (List ℕ)) (from : List ℕ) (c : Choice) : Type 0 where
  pub into : IntoStands names (into_of names c.into) c.into
  pub taken : (registers : List (Option Value)) (locals : List Local) → StandFor names registers locals → origin_value registers (move_of m names from c).origin ≡ chosen m locals from c

-- the same of each phi
abbrev pub PhisAgree : Module → List (List ℕ) → List ℕ → List Choice → Type 0
PhisAgree m names from [] = Unit {0}
PhisAgree m names from (c ∷ cs) = PhiAgrees m names from c × PhisAgree m names from cs

-- the cases of a switch are known
abbrev pub CasesAgree : Module → List Case → Type 0
CasesAgree m [] = Unit {0}
CasesAgree m (c ∷ cs) = (origin_value [] (origin_of m [] (kind_of c.ty) c.value) ≡ value_of m [] (kind_of c.ty) c.value) × CasesAgree m cs

-- what a terminator reads
abbrev pub EndAgrees : Module → List (List ℕ) → Term → Type 0
EndAgrees m names Ret = Unit {0}
EndAgrees m names (RetValue ty a) = IsReadAs m names (kind_of ty) a
EndAgrees m names (Br to) = Unit {0}
EndAgrees m names (BrIf condition taken other) = IsReadAs m names (Number W1) condition
EndAgrees m names (Switch ty a default cases) = IsReadAs m names (kind_of ty) a × CasesAgree m cases
EndAgrees m names Unreachable = Unit {0}

-- a block of a function: its instructions, its phis from each block, and its end
pub record BlockAgrees (m : Module) (names : List (List ℕ)) (b : Block) : Type 0 where
  pub insts : (i : ℕ) (inst : Inst) → slice_get b.insts i ≡ Some inst → InstAgrees m names inst
  pub phis : (from : List ℕ) → PhisAgree m names from (choices_of b.insts)
  pub end : EndAgrees m names b.end

-- all blocks of a module
abbrev pub Agrees : Module → Type 0
Agrees m = (number : ℕ) (f : Function) (k : ℕ) (b : Block) → slice_get m.functions number ≡ Some f → slice_get f.blocks k ≡ Some b → BlockAgrees m (register_names f) b
