use Rattle.std.proofs.Common.{◌∙◌}
use Rattle.ir_grammar.proofs.Rows.{shorter, more}
use Rattle.ir_syntax.specs.Terminators.{case}
use Rattle.ir_syntax.proofs.FineModule.{item-case}
use Rattle.ir_parse.proofs.terminator.cases.Goals as goal

pub cases-smaller : goal.cases-smaller
cases-smaller c = shorter case item-case c.cases.rest.now c.in_ok-case.behind.now c.in_ok-case.case c.in_ok-case.ensures

pub cases-preserved : goal.cases-preserved
cases-preserved c =
    more case item-case c.cases.rest.now c.in_ok-case.behind.now c.in_ok-case.case c.in_ok-case.ensures c.cases.all c.add.new.self c.in-Ok.ensures.put
    ∙ c.cases.invariant
