use Rattle.std.proofs.Common.{◌∙◌}
use Rattle.ir_grammar.proofs.Rows.{shorter, skipped}
use Rattle.ir_syntax.specs.Instructions.{call_attribute}
use Rattle.ir_syntax.proofs.FineInstructions.{item-call_attribute}
use Rattle.ir_parse.proofs.call.call_tail.Goals as goal

pub attributes-smaller : goal.attributes-smaller
attributes-smaller c = shorter call_attribute item-call_attribute c.attributes.rest.now c.in_ok-rest.rest.now tt c.in_ok-rest.ensures

pub attributes-preserved : goal.attributes-preserved
attributes-preserved c = skipped call_attribute item-call_attribute c.attributes.rest.now c.in_ok-rest.rest.now tt c.in_ok-rest.ensures ∙ c.attributes.invariant
