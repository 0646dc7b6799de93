use Rattle.low_core.specs.SelParts.{end_reads}
use Rattle.regalloc.specs.Occurs.{op_registers}
use Rattle.regalloc.proofs.Marks.{marks_left}
use Rattle.regalloc.proofs.occurs.mark_block.Goals as goal

pub loop-op-preserved : goal.loop-op-preserved
loop-op-preserved c =
    marks_left op_registers c.loop-op.seen c.mark_op.new.seen _ c.as_slice-op-items.result.now c.loop-op.op-index c.op-item.result (end_reads c.args.b.now.end) c.loop-op-test.true c.op-item.is c.loop-op.invariant c.mark_op.ensures
