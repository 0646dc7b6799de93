-- the names so far are new
use Rattle.std.proofs.Common.{take, None}
use Rattle.std.specs.List.{flat_map}
use Rattle.ir_core.specs.Definitions.{block_names}
use Rattle.ir_names.specs.Firsts.{Adds}
use Rattle.ir_names.proofs.doubled.add_blocks.Given as goal

abbrev pub invariant-loop-b : goal.invariant-loop-b
invariant-loop-b l = Adds l.initial.names l.names (flat_map block_names (take l.b-index l.blocks)) None
