use Rattle.std.proofs.Common.{◌≡◌, ◌+◌, ◌≤◌, length, drop}
use Rattle.std.specs.List.{sum_by}
use Rattle.low_core.specs.SelWeights.{sel_block_weight}
use Rattle.frame_lower.specs.Blocks.{blocks_row, calls_of_blocks, start_in}
use Rattle.frame_lower.specs.Making.{making}
use Rattle.frame_lower.specs.Writing.{with_row}
use Rattle.frame_lower.proofs.maker.Maker.put_blocks.Given as goal

abbrev pub invariant-loop-block : goal.invariant-loop-block
invariant-loop-block l =
    (with_row (blocks_row (making l.fn.self) (start_in l.starts) (length l.code.bytes) l.slot (drop l.block-index l.blocks)) l.code
    ≡ with_row (blocks_row (making l.fn.self) (start_in l.starts) (length l.fn.code.bytes) l.fn.first l.blocks) l.fn.code)
    × ((length l.code.bytes + sum_by sel_block_weight (drop l.block-index l.blocks) ≤ length l.fn.code.bytes + sum_by sel_block_weight l.blocks)
    × (l.slot + calls_of_blocks (drop l.block-index l.blocks) ≡ l.fn.first + calls_of_blocks l.blocks))
