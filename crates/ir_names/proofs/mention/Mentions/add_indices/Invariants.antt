-- the mentions so far
use Rattle.std.proofs.Common.{◌≡◌, ◌++◌, take}
use Rattle.ir_core.specs.Mentions.{of_indices}
use Rattle.ir_names.proofs.mention.Mentions.add_indices.Given as goal

abbrev pub invariant-loop-index : goal.invariant-loop-index
invariant-loop-index l = l.self ≡ l.initial.self ++ of_indices (take l.index-index l.indices)
