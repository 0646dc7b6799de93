-- How blocks end, with numbers in place of labels.
use Rattle.std.specs.Prelude.{ℕ, List, [], ◌∷◌, ◌++◌, length, map, fold, not, slice_get, unwrap_or, Option, Some, None, if◌then◌else◌}
use Rattle.std.specs.List.{list_any}
use Rattle.rd_num.specs.declared.width.Width.TheVariants.{W1}
use Rattle.ir_core.specs.declared.instruction.Case.{Case}
use Rattle.ir_core.specs.declared.instruction.Entry.{Entry}
use Rattle.ir_core.specs.declared.instruction.Term.{Term}
use Rattle.ir_core.specs.declared.instruction.Term.TheVariants.{Ret, RetValue, Br, BrIf, Switch, Unreachable}
use Rattle.ir_core.specs.declared.module.Block.{Block}
use Rattle.ir_core.specs.declared.module.Module.{Module}
use Rattle.ir_core.specs.Names.{same_name, number_where, first_where}
use Rattle.ir_core.specs.declared.kind.Kind.{Kind}
use Rattle.ir_core.specs.declared.kind.Kind.TheVariants.{Number}
use Rattle.ir_core.specs.Kinds.{kind_of}
use Rattle.ir_core.specs.Step.{Choice, choices_of}
use Rattle.ir_context.specs.Registers.{number_of}
use Rattle.ir_context.specs.declared.origin.Origin.{Origin}
use Rattle.ir_context.specs.declared.origin.Origin.TheVariants.{Malformed}
use Rattle.ir_program.specs.declared.exit.Move.{Move}
use Rattle.ir_program.specs.declared.exit.Edge.{Edge}
use Rattle.ir_program.specs.declared.exit.Arm.{Arm}
use Rattle.ir_program.specs.declared.exit.Exit.{Exit}
use Rattle.ir_program.specs.declared.exit.Exit.TheVariants as ends
use Rattle.ir_context.specs.Origins.{origin_of}
use Rattle.ir_program.specs.Actions.{into_of}

-- names, and one more that isn't among them yet
abbrev pub with_new : List (List ℕ) → List ℕ → List (List ℕ)
with_new names name = if not (list_any (same_name name) names) then names ++ name ∷ [] else names

-- names without those that stand behind the same name
abbrev pub distinct : List (List ℕ) → List (List ℕ)
distinct names = fold with_new [] names

-- what an entry is, where there is one for the block
abbrev pub entry_origin : Module → List (List ℕ) → Kind → Option Entry → Origin
entry_origin m names kind (Some e) = origin_of m names kind e.value
entry_origin m names kind None = Malformed

-- what a phi takes from a block
abbrev pub move_of : Module → List (List ℕ) → List ℕ → Choice → Move
move_of m names from c = record {
  into = into_of names c.into;
  origin = entry_origin m names c.kind (first_where (λ (e : Entry). same_name e.from from) c.entries);
}

-- an edge to no block
abbrev pub no_edge : Edge
no_edge = record { block = 0; next = 0; moves = (record { into = None; origin = Malformed }) ∷ [] }

-- an edge from a block to one of a number with these phis
abbrev pub edge_with : Module → List (List ℕ) → List ℕ → ℕ → List Choice → Edge
edge_with m names from number phis = record { block = number; next = length phis; moves = map (move_of m names from) phis }

-- to a block, where there is one
abbrev pub edge_found : Module → List (List ℕ) → List ℕ → ℕ → Option Block → Edge
edge_found m names from number (Some b) = edge_with m names from number (choices_of b.insts)
edge_found m names from number None = no_edge

-- to the block of a number
abbrev pub edge_at : Module → List (List ℕ) → List ℕ → List Block → Option ℕ → Edge
edge_at m names from blocks (Some number) = edge_found m names from number (slice_get blocks number)
edge_at m names from blocks None = no_edge

-- to a label
abbrev pub edge_to : Module → List (List ℕ) → List ℕ → List Block → List ℕ → Edge
edge_to m names from blocks label = edge_at m names from blocks (number_where (λ (b : Block). same_name b.label label) blocks)

-- the number of a label among those of a terminator
abbrev pub edge_number : List (List ℕ) → List ℕ → ℕ
edge_number labels label = unwrap_or (number_of labels label) 0

-- a case
abbrev pub arm_of : Module → List (List ℕ) → Case → Arm
arm_of m labels c = record { value = origin_of m [] (kind_of c.ty) c.value; edge = edge_number labels c.to }

-- a terminator, among whose labels are these
abbrev pub exit_of : Module → List (List ℕ) → List (List ℕ) → Term → Exit
exit_of m names labels Ret = ends.Return
exit_of m names labels (RetValue ty a) = ends.Give (origin_of m names (kind_of ty) a)
exit_of m names labels (Br to) = ends.Jump (edge_number labels to)
exit_of m names labels (BrIf condition taken other) =
    ends.Branch (origin_of m names (Number W1) condition) (edge_number labels taken) (edge_number labels other)
exit_of m names labels (Switch ty a default cases) =
    ends.Switch (origin_of m names (kind_of ty) a) (edge_number labels default) (map (arm_of m labels) cases)
exit_of m names labels Unreachable = ends.Unreachable
