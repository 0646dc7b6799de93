use Rattle.std.proofs.Common.{◌∙◌}
use Rattle.ir_grammar.proofs.Rows.{shorter, skipped}
use Rattle.ir_syntax.specs.Functions.{defined_tail}
use Rattle.ir_syntax.proofs.FineModule.{item-defined_tail}
use Rattle.ir_parse.proofs.declaration.defined_tails.Goals as goal

pub tails-smaller : goal.tails-smaller
tails-smaller c = shorter defined_tail item-defined_tail c.tails.rest.now c.in_ok-rest.rest.now tt c.in_ok-rest.ensures

pub tails-preserved : goal.tails-preserved
tails-preserved c = skipped defined_tail item-defined_tail c.tails.rest.now c.in_ok-rest.rest.now tt c.in_ok-rest.ensures ∙ c.tails.invariant
