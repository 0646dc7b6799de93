use Rattle.std.proofs.Common.{◌∙◌}
use Rattle.ir_grammar.proofs.Rows.{shorter}
use Rattle.ir_syntax.specs.Instructions.{inst}
use Rattle.ir_syntax.proofs.FineInstructions.{item-inst}
use Rattle.ir_parse.proofs.Present.{present_more}
use Rattle.ir_parse.proofs.block.insts.Goals as goal

pub insts-smaller : goal.insts-smaller
insts-smaller c = shorter inst item-inst c.insts.rest.now c.in_ok-next.behind.now c.in_ok-next.next c.in_ok-next.ensures

pub insts-preserved : goal.insts-preserved
insts-preserved c =
    present_more c.insts.all c.in_ok-all.all c.in_ok-next.next c.insts.rest.now c.in_ok-next.behind.now c.in_ok-next.ensures c.in_ok-all.ensures ∙ c.insts.invariant
