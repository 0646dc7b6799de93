use Rattle.std.proofs.Common.{◌≡◌, ◌-◌, map, max, drop}
use Rattle.ir_core.specs.Counts.{greatest}
use Rattle.low_core.specs.declared.sel.SelOp.{SelOp}
use Rattle.low_core.specs.SelWeights.{arguments_of}
use Rattle.frame_lower.proofs.frame.most_passed.Given as goal

abbrev pub invariant-loop-op : goal.invariant-loop-op
invariant-loop-op l = max l.most (greatest (map (λ (op : SelOp). arguments_of op - 6) (drop l.op-index l.ops))) ≡ greatest (map (λ (op : SelOp). arguments_of op - 6) l.ops)
