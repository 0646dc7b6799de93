-- the edges so far
use Rattle.std.proofs.Common.{◌≡◌, take}
use Rattle.std.specs.List.{flat_map}
use Rattle.ir_core.specs.Definitions.{label_names}
use Rattle.ir_types.specs.Flow.{edges_of, noted_all}
use Rattle.ir_types.proofs.flow.Flow.note_blocks.Given as goal

abbrev pub invariant-loop-b : goal.invariant-loop-b
invariant-loop-b l = l.self.rows.items ≡ noted_all (label_names l.scope) l.initial.self.rows.items (flat_map edges_of (take l.b-index l.blocks))
