-- the most so far
use Rattle.std.proofs.Common.{◌≡◌, take}
use Rattle.std.specs.List.{flat_map}
use Rattle.ir_core.specs.declared.instruction.Inst.{Inst}
use Rattle.ir_core.specs.Counts.{argument_counts, greatest}
use Rattle.ir_limits.proofs.params.most_in_block.Given as goal

abbrev pub invariant-loop-i : goal.invariant-loop-i
invariant-loop-i l = l.most ≡ greatest (flat_map (λ (i : Inst). argument_counts i.op) (take l.i-index l.insts))
