use Rattle.std.proofs.Common.{◌≡◌, ◌-◌, map, max, drop}
use Rattle.std.specs.List.{flat_map}
use Rattle.ir_core.specs.Counts.{greatest}
use Rattle.low_core.specs.declared.sel.SelBlock.{SelBlock}
use Rattle.low_core.specs.declared.sel.SelOp.{SelOp}
use Rattle.low_core.specs.SelWeights.{arguments_of}
use Rattle.frame_lower.proofs.frame.most_passed_in.Given as goal

abbrev pub invariant-loop-block : goal.invariant-loop-block
invariant-loop-block l =
    max l.most (greatest (map (λ (op : SelOp). arguments_of op - 6) (flat_map (λ (b : SelBlock). b.ops) (drop l.block-index l.blocks))))
    ≡ greatest (map (λ (op : SelOp). arguments_of op - 6) (flat_map (λ (b : SelBlock). b.ops) l.blocks))
