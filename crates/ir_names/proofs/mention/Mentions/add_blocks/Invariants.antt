-- the mentions so far
use Rattle.std.proofs.Common.{◌≡◌, ◌++◌, take}
use Rattle.std.specs.List.{flat_map}
use Rattle.ir_core.specs.Mentions.{of_block}
use Rattle.ir_names.proofs.mention.Mentions.add_blocks.Given as goal

abbrev pub invariant-loop-b : goal.invariant-loop-b
invariant-loop-b l = l.self ≡ l.initial.self ++ flat_map of_block (take l.b-index l.blocks)
