use Rattle.std.proofs.Common.{◌∙◌}
use Rattle.ir_grammar.proofs.Rows.{shorter, skipped}
use Rattle.ir_syntax.specs.Metadata.{attach}
use Rattle.ir_syntax.proofs.FineValues.{closed-attach}
use Rattle.ir_parse.proofs.declaration.attach_row.Goals as goal

pub attaches-smaller : goal.attaches-smaller
attaches-smaller c = shorter attach (record { good = closed-attach.good; some = closed-attach.some }) c.attaches.rest.now c.in_ok-rest.rest.now tt c.in_ok-rest.ensures

pub attaches-preserved : goal.attaches-preserved
attaches-preserved c = skipped attach (record { good = closed-attach.good; some = closed-attach.some }) c.attaches.rest.now c.in_ok-rest.rest.now tt c.in_ok-rest.ensures ∙ c.attaches.invariant
