-- What stands in the place of phis: on each edge to a block with phis a chunk of its own, which first puts aside all
-- values of that edge and then takes them up.
--
-- By hand, for edges from e; a name with a zero byte in front is written with a dot:
--
--   phis of the block h                                     chunk of the edge from e to h
--   %a = phi [ %b, %e ]   %b = phi [ %a, %e ]               .b = %a    .a = %b    %b = .b    %a = .a      (a swap)
--   %a = phi [ %b, %e ]   %b = phi [ %c, %e ]   %c = phi [ %a, %e ]
--                                .c = %a    .b = %c    .a = %b    %c = .c    %b = .b    %a = .a      (a cycle of three)
--   %x = phi [ %x, %e ]                                     .x = %x    %x = .x      (a phi that reads itself)
--   e: switch i32 1, label %d [ i32 1, label %h   i32 2, label %h ]      %x = phi [ 5, %e ], [ 5, %e ]
--                                .x = 5    %x = .x      (one chunk, to which both cases lead)
--   h: .. br label %h      %x = phi [ 0, %e ], [ %y, %h ]   .x = %y    %x = .x      (from h to h, besides that from e)
use Rattle.std.specs.Prelude.{ℕ, List, [], ◌∷◌, ◌++◌, fold, length, drop, map, if◌then◌else◌, Option, Some, None}
use Rattle.std.specs.List.{flat_map}
use Rattle.ir_core.specs.declared.ty.Ty.{Ty}
use Rattle.ir_core.specs.declared.operand.Operand.TheVariants.{Local as LocalName}
use Rattle.ir_core.specs.declared.instruction.Op.{Op}
use Rattle.ir_core.specs.declared.instruction.Op.TheVariants.{Phi}
use Rattle.ir_core.specs.declared.instruction.Entry.{Entry}
use Rattle.ir_core.specs.declared.instruction.Case.{Case}
use Rattle.ir_core.specs.declared.instruction.Inst.{Inst}
use Rattle.ir_core.specs.declared.instruction.Term.{Term}
use Rattle.ir_core.specs.declared.instruction.Term.TheVariants.{Ret, RetValue, Br, BrIf, Switch, Unreachable}
use Rattle.ir_core.specs.declared.module.Block.{Block}
use Rattle.ir_core.specs.declared.module.Function.{Function}
use Rattle.ir_core.specs.declared.module.Module.{Module}
use Rattle.ir_core.specs.Names.{same_name, first_where}
use Rattle.ir_core.specs.Definitions.{is_among}
use Rattle.ir_core.specs.Typing.{labels_of}
use Rattle.low_core.specs.declared.moves.MoveOp.TheVariants.{Copy}
use Rattle.low_core.specs.declared.moves.Move.{Move}
use Rattle.low_core.specs.declared.moves.Chunk.{Chunk}
use Rattle.low_core.specs.declared.moves.Body.{Body}
use Rattle.low_core.specs.Plain.{move_of}

-- the variable in which a phi's value is put aside: no text has a name with a zero byte
abbrev pub aside : List ℕ → List ℕ
aside name = 0 ∷ name

-- the label of the chunk of an edge
abbrev pub edge_label : List ℕ → List ℕ → List ℕ
edge_label from to = 0 ∷ from ++ 0 ∷ to

-- a phi
pub record PhiPart : Type 0 where
  pub into : Option (List ℕ)
  pub ty : Ty
  pub entries : List Entry

-- an instruction in front of others: only a phi goes on with their phis
abbrev pub phis_with : Option (List ℕ) → Op → List PhiPart → List PhiPart
phis_with into (Phi ty entries) others = record { into = into; ty = ty; entries = entries } ∷ others
phis_with into op others = []

-- the phis with which a block begins
abbrev pub phis_of : List Inst → List PhiPart
phis_of [] = []
phis_of (i ∷ is) = phis_with i.result i.op (phis_of is)

-- the value of an entry is put aside
abbrev pub put_of : Option (List ℕ) → Ty → Option Entry → List Move
put_of (Some into) ty (Some e) = record { to = Some (aside into); op = Copy ty e.value } ∷ []
put_of (Some into) ty None = []
put_of None ty e = []

-- that of the first entry of the block from which an edge comes
abbrev pub put_aside : List ℕ → PhiPart → List Move
put_aside from p = put_of p.into p.ty (first_where (λ (e : Entry). same_name e.from from) p.entries)

-- a value is taken up
abbrev pub take_of : Option (List ℕ) → Ty → List Move
take_of (Some into) ty = record { to = Some into; op = Copy ty (LocalName (aside into)) } ∷ []
take_of None ty = []

abbrev pub taken_up : PhiPart → List Move
taken_up p = take_of p.into p.ty

-- the moves for each phi, those of the last one first
abbrev pub last_first : (PhiPart → List Move) → List PhiPart → List Move
last_first moves [] = []
last_first moves (p ∷ ps) = last_first moves ps ++ moves p

-- along an edge from a label all values are put aside before the first is taken up
abbrev pub copies : List ℕ → List PhiPart → List Move
copies from ps = last_first (put_aside from) ps ++ last_first taken_up ps

-- the block of a label
abbrev pub block_of_label : List Block → List ℕ → Option Block
block_of_label blocks label = first_where (λ (b : Block). same_name b.label label) blocks

-- the phis of a block, if there is one
abbrev pub phis_in : Option Block → List PhiPart
phis_in (Some b) = phis_of b.insts
phis_in None = []

-- phis that are found, or none
abbrev pub phis_or_none : Option (List PhiPart) → List PhiPart
phis_or_none (Some ps) = ps
phis_or_none None = []

-- the phis of the block of a label
abbrev pub phis_to : List Block → List ℕ → List PhiPart
phis_to blocks label = phis_in (block_of_label blocks label)

-- where an edge goes first: to its own chunk, where there are phis
abbrev pub way_to : List ℕ → List ℕ → List PhiPart → List ℕ
way_to from to [] = to
way_to from to (p ∷ ps) = edge_label from to

abbrev pub first_on_way : List Block → List ℕ → List ℕ → List ℕ
first_on_way blocks from to = way_to from to (phis_to blocks to)

-- a case that goes to another label
abbrev pub case_to : Case → List ℕ → Case
case_to c to = record { ty = c.ty; value = c.value; to = to }

-- the end of a block, where edges go first
abbrev pub with_ways : List Block → List ℕ → Term → Term
with_ways blocks from Ret = Ret
with_ways blocks from (RetValue ty a) = RetValue ty a
with_ways blocks from (Br to) = Br (first_on_way blocks from to)
with_ways blocks from (BrIf condition taken other) = BrIf condition (first_on_way blocks from taken) (first_on_way blocks from other)
with_ways blocks from (Switch ty a default cases) = Switch ty a (first_on_way blocks from default) (map (λ (c : Case). case_to c (first_on_way blocks from c.to)) cases)
with_ways blocks from Unreachable = Unreachable

-- the instructions of a block behind its phis
abbrev pub behind_phis : List Inst → List Inst
behind_phis insts = drop (length (phis_of insts)) insts

-- a block without its phis
abbrev pub chunk_of_block : List Block → Block → Chunk
chunk_of_block blocks b = record { label = b.label; moves = map move_of (behind_phis b.insts); end = with_ways blocks b.label b.end }

-- the chunk of an edge, where there are phis
abbrev pub chunk_to : List ℕ → List ℕ → List PhiPart → List Chunk
chunk_to from to [] = []
chunk_to from to (p ∷ ps) = record { label = edge_label from to; moves = copies from (p ∷ ps); end = Br to } ∷ []

-- a name among others, where it isn't there yet
abbrev pub with_name : List (List ℕ) → List ℕ → List (List ℕ)
with_name names name = if is_among names name then names else names ++ name ∷ []

-- the labels to which a block leads, each once
abbrev pub targets_of : Term → List (List ℕ)
targets_of end = fold with_name [] (labels_of end)

-- the chunks of edges to these labels
abbrev pub chunks_to : List Block → List ℕ → List (List ℕ) → List Chunk
chunks_to blocks from targets = flat_map (λ to. chunk_to from to (phis_to blocks to)) targets

-- a block, and behind it a chunk for each block with phis to which it leads: one, also where several cases lead there
abbrev pub chunks_of_block : List Block → Block → List Chunk
chunks_of_block blocks b = chunk_of_block blocks b ∷ chunks_to blocks b.label (targets_of b.end)

-- a function without phis
abbrev pub body_of : Function → Body
body_of f = record { chunks = flat_map (chunks_of_block f.blocks) f.blocks }

-- the bodies of a module without phis
abbrev pub bodies_without_phis : Module → List Body
bodies_without_phis m = map body_of m.functions
