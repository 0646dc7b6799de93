-- The phis of blocks, with numbers in place of names: what they take, for each block from which they take it.
use Rattle.std.specs.Prelude.{ℕ, List, [], ◌∷◌, ◌++◌, Bool, true, false, length, map, fold, not, slice_get, unwrap_or, Option, Some, None, if◌then◌else◌}
use Rattle.std.specs.List.{list_any}
use Rattle.ir_core.specs.declared.instruction.Op.{Op}
use Rattle.ir_core.specs.declared.instruction.Op.TheVariants.{Phi as PhiOp}
use Rattle.ir_core.specs.declared.instruction.Entry.{Entry}
use Rattle.ir_core.specs.declared.kind.Kind.{Kind}
use Rattle.ir_core.specs.declared.module.Block.{Block}
use Rattle.ir_core.specs.declared.module.Module.{Module}
use Rattle.ir_core.specs.Names.{same_name}
use Rattle.ir_core.specs.Kinds.{kind_of}
use Rattle.ir_core.specs.Step.{Choice, choices_of}
use Rattle.ir_context.specs.Registers.{number_of}
use Rattle.ir_context.specs.declared.origin.Origin.{Origin}
use Rattle.ir_context.specs.declared.origin.Origin.TheVariants.{Malformed}
use Rattle.ir_program.specs.declared.exit.Move.{Move}
use Rattle.ir_program.specs.declared.exit.Edge.{Edge}
use Rattle.ir_program.specs.declared.phi.Phi.{Phi}
use Rattle.ir_context.specs.Origins.{origin_of}
use Rattle.ir_program.specs.Actions.{into_of}

-- a phi that takes nothing from any block
abbrev pub empty_phi : Option ℕ → Phi
empty_phi into = record { into = into; labels = []; origins = [] }

-- with an entry, if none for the same block came before
abbrev pub with_entry : Module → List (List ℕ) → Kind → Phi → Entry → Phi
with_entry m names kind p e =
    if not (list_any (same_name e.from) p.labels) then record p { labels = p.labels ++ e.from ∷ []; origins = p.origins ++ origin_of m names kind e.value ∷ [] } else p

-- a phi with these entries
abbrev pub phi_with : Module → List (List ℕ) → Option (List ℕ) → Kind → List Entry → Phi
phi_with m names into kind entries = fold (with_entry m names kind) (empty_phi (into_of names into)) entries

-- a phi
abbrev pub phi_of : Module → List (List ℕ) → Choice → Phi
phi_of m names c = phi_with m names c.into c.kind c.entries

-- whether an instruction is a phi
abbrev pub is_phi : Op → Bool
is_phi (PhiOp ty entries) = true
is_phi other = false

-- the phi that an instruction is, where it is one
abbrev pub phi_row : Module → List (List ℕ) → Option (List ℕ) → Op → List Phi
phi_row m names into (PhiOp ty entries) = phi_with m names into (kind_of ty) entries ∷ []
phi_row m names into other = []

-- the phis of a block
abbrev pub phis_in : Module → List (List ℕ) → Block → List Phi
phis_in m names b = map (phi_of m names) (choices_of b.insts)

-- an origin by its number, where there is one
abbrev pub origin_at : List Origin → Option ℕ → Origin
origin_at origins (Some k) = unwrap_or (slice_get origins k) Malformed
origin_at origins None = Malformed

-- what a phi takes from a block
abbrev pub taken : Phi → List ℕ → Origin
taken p from = origin_at p.origins (number_of p.labels from)

-- and gives to its register
abbrev pub phi_move : List ℕ → Phi → Move
phi_move from p = record { into = p.into; origin = taken p from }

-- an edge from a block to one of a number that begins with phis
abbrev pub phi_edge : List ℕ → ℕ → List Phi → Edge
phi_edge from number phis = record { block = number; next = length phis; moves = map (phi_move from) phis }
