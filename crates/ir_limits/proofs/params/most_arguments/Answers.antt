use Rattle.std.proofs.Common.{◌∙◌, ap}
use Rattle.std.specs.List.{flat_map}
use Rattle.ir_core.specs.declared.instruction.Inst.{Inst}
use Rattle.ir_core.specs.declared.module.Block.{Block}
use Rattle.ir_core.specs.Counts.{argument_counts, greatest}
use Rattle.ir_limits.proofs.ToldLaws.{greatest_step}
use Rattle.ir_limits.proofs.params.most_arguments.Goals as goal

pub loop-b-preserved : goal.loop-b-preserved
loop-b-preserved c =
    greatest_step (λ (b : Block). flat_map (λ (i : Inst). argument_counts i.op) b.insts) c.args.blocks.now c.loop-b.b-index c.b-item.result c.loop-b-test.true c.b-item.is
    c.loop-b.most c.most_in_block.result c.greater-most.result c.greater-most.ensures c.loop-b.invariant
    (c.most_in_block.ensures ∙ ap (λ is. greatest (flat_map (λ (i : Inst). argument_counts i.op) is)) c.as_slice.ensures)
