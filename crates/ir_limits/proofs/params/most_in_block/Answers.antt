use Rattle.ir_core.specs.declared.instruction.Inst.{Inst}
use Rattle.ir_core.specs.Counts.{argument_counts}
use Rattle.ir_limits.proofs.ToldLaws.{greatest_step}
use Rattle.ir_limits.proofs.params.most_in_block.Goals as goal

pub loop-i-preserved : goal.loop-i-preserved
loop-i-preserved c =
    greatest_step (λ (i : Inst). argument_counts i.op) c.args.insts.now c.loop-i.i-index c.i-item.result c.loop-i-test.true c.i-item.is
    c.loop-i.most c.arguments.result c.greater-most.result c.greater-most.ensures c.loop-i.invariant c.arguments.ensures
