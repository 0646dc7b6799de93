use Rattle.std.proofs.Common.{◌∙◌}
use Rattle.ir_grammar.proofs.Rows.{shorter, skipped}
use Rattle.ir_syntax.specs.Parameters.{pattr}
use Rattle.ir_syntax.proofs.FineValues.{item-pattr}
use Rattle.ir_syntax.proofs.parameter.pattrs.Goals as goal

pub attributes-smaller : goal.attributes-smaller
attributes-smaller c = shorter pattr item-pattr c.attributes.rest.now c.in_ok-rest.rest.now tt c.in_ok-rest.ensures

pub attributes-preserved : goal.attributes-preserved
attributes-preserved c = skipped pattr item-pattr c.attributes.rest.now c.in_ok-rest.rest.now tt c.in_ok-rest.ensures ∙ c.attributes.invariant
