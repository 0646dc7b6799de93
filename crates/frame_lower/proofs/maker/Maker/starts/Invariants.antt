use Rattle.std.proofs.Common.{◌≡◌, ◌+◌, ◌≤◌, ◌++◌, drop}
use Rattle.std.specs.List.{sum_by}
use Rattle.low_core.specs.SelWeights.{sel_block_weight}
use Rattle.frame_lower.specs.Blocks.{starts_from}
use Rattle.frame_lower.specs.Making.{making}
use Rattle.frame_lower.proofs.maker.Maker.starts.Given as goal

abbrev pub invariant-loop-block : goal.invariant-loop-block
invariant-loop-block l =
    (l.all ++ starts_from (making l.fn.self) l.at (drop l.block-index l.blocks) ≡ starts_from (making l.fn.self) l.fn.first l.blocks)
    × (l.at + sum_by sel_block_weight (drop l.block-index l.blocks) ≤ l.fn.first + sum_by sel_block_weight l.blocks)
