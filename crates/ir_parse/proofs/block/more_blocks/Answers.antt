use Rattle.std.proofs.Common.{◌∙◌}
use Rattle.ir_grammar.proofs.Rows.{shorter, more}
use Rattle.ir_syntax.specs.Functions.{labelled}
use Rattle.ir_syntax.proofs.FineModule.{item-labelled}
use Rattle.ir_parse.proofs.block.more_blocks.Goals as goal

pub labels-smaller : goal.labels-smaller
labels-smaller c = shorter labelled item-labelled c.labels.rest.now c.in_ok-next.behind.now c.in_ok-next.next c.in_ok-next.ensures

pub labels-preserved : goal.labels-preserved
labels-preserved c =
    more labelled item-labelled c.labels.rest.now c.in_ok-next.behind.now c.in_ok-next.next c.in_ok-next.ensures c.labels.all c.add.new.self c.in-Ok.ensures.put
    ∙ c.labels.invariant
