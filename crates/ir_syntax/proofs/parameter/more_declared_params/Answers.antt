use Rattle.std.proofs.Common.{◌∙◌}
use Rattle.ir_grammar.specs.Tokens.{kinds}
use Rattle.ir_grammar.specs.Parts.{behind_comma}
use Rattle.ir_grammar.proofs.Rows.{shorter, more, comma_read}
use Rattle.ir_syntax.specs.Parameters.{declared_param}
use Rattle.ir_syntax.proofs.FineValues.{item-declared_param}
use Rattle.ir_syntax.proofs.parameter.more_declared_params.Goals as goal

pub commas-smaller : goal.commas-smaller
commas-smaller c =
    shorter (behind_comma declared_param) item-declared_param c.commas.rest.now c.in_ok-next.behind.now c.in_ok-next.next
    (comma_read declared_param c.in_ok-next.next (kinds c.commas.rest.now) (kinds c.in_ok-behind.behind.now) (kinds c.in_ok-next.behind.now) c.in_ok-behind.ensures c.in_ok-next.ensures)

pub commas-preserved : goal.commas-preserved
commas-preserved c =
    more (behind_comma declared_param) item-declared_param c.commas.rest.now c.in_ok-next.behind.now c.in_ok-next.next
    (comma_read declared_param c.in_ok-next.next (kinds c.commas.rest.now) (kinds c.in_ok-behind.behind.now) (kinds c.in_ok-next.behind.now) c.in_ok-behind.ensures c.in_ok-next.ensures)
    c.commas.all c.add.new.self c.in-Ok.ensures.put
    ∙ c.commas.invariant
