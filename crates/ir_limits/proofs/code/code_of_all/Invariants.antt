-- the sum so far
use Rattle.std.proofs.Common.{◌≡◌, take}
use Rattle.std.specs.List.{sum_by}
use Rattle.ir_core.specs.Counts.{told}
use Rattle.ir_limits.proofs.code.code_of_all.Given as goal

abbrev pub invariant-loop-item : goal.invariant-loop-item
invariant-loop-item g l = l.sum ≡ told (sum_by g.T.TakesCode.code_of (take l.item-index l.items))
