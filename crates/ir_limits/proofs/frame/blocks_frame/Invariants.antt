-- the sum so far
use Rattle.std.proofs.Common.{◌≡◌, take}
use Rattle.std.specs.List.{sum_by}
use Rattle.ir_core.specs.declared.module.Block.{Block}
use Rattle.ir_core.specs.Counts.{told, inst_frame}
use Rattle.ir_limits.proofs.frame.blocks_frame.Given as goal

abbrev pub invariant-loop-b : goal.invariant-loop-b
invariant-loop-b l = l.sum ≡ told (sum_by (λ (b : Block). sum_by (inst_frame l.sizes) b.insts) (take l.b-index l.blocks))
