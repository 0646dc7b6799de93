use Rattle.std.proofs.Common.{◌∙◌}
use Rattle.ir_grammar.proofs.Rows.{shorter, skipped}
use Rattle.ir_syntax.specs.Functions.{declared_tail}
use Rattle.ir_syntax.proofs.FineModule.{item-declared_tail}
use Rattle.ir_parse.proofs.declaration.declared_tails.Goals as goal

pub tails-smaller : goal.tails-smaller
tails-smaller c = shorter declared_tail item-declared_tail c.tails.rest.now c.in_ok-rest.rest.now tt c.in_ok-rest.ensures

pub tails-preserved : goal.tails-preserved
tails-preserved c = skipped declared_tail item-declared_tail c.tails.rest.now c.in_ok-rest.rest.now tt c.in_ok-rest.ensures ∙ c.tails.invariant
