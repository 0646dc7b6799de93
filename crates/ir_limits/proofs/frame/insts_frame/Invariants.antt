-- the sum so far
use Rattle.std.proofs.Common.{◌≡◌, take}
use Rattle.std.specs.List.{sum_by}
use Rattle.ir_core.specs.Counts.{told, inst_frame}
use Rattle.ir_limits.proofs.frame.insts_frame.Given as goal

abbrev pub invariant-loop-i : goal.invariant-loop-i
invariant-loop-i l = l.sum ≡ told (sum_by (inst_frame l.sizes) (take l.i-index l.insts))
