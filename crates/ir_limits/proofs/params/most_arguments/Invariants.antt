-- the most so far
use Rattle.std.proofs.Common.{◌≡◌, take}
use Rattle.std.specs.List.{flat_map}
use Rattle.ir_core.specs.declared.instruction.Inst.{Inst}
use Rattle.ir_core.specs.declared.module.Block.{Block}
use Rattle.ir_core.specs.Counts.{argument_counts, greatest}
use Rattle.ir_limits.proofs.params.most_arguments.Given as goal

abbrev pub invariant-loop-b : goal.invariant-loop-b
invariant-loop-b l = l.most ≡ greatest (flat_map (λ (b : Block). flat_map (λ (i : Inst). argument_counts i.op) b.insts) (take l.b-index l.blocks))
