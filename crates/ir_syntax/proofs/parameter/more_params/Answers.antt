use Rattle.std.proofs.Common.{◌≡◌, ◌∙◌}
use Rattle.ir_grammar.specs.Tokens.{kinds}
use Rattle.ir_grammar.specs.Parts.{behind_comma}
use Rattle.ir_grammar.proofs.Rows.{shorter, comma_read}
use Rattle.ir_syntax.specs.Parameters.{param}
use Rattle.ir_syntax.specs.Naming.{with_one}
use Rattle.ir_syntax.proofs.FineValues.{item-param}
use Rattle.ir_syntax.proofs.NamedRows.{more_named, few_more}
use Rattle.ir_syntax.proofs.parameter.more_params.Goals as goal

pub commas-smaller : goal.commas-smaller
commas-smaller c =
    shorter (behind_comma param) item-param c.commas.rest.now c.in_ok-written.behind.now c.in_ok-written.written
    (comma_read param c.in_ok-written.written (kinds c.commas.rest.now) (kinds c.in_ok-behind.behind.now) (kinds c.in_ok-written.behind.now) c.in_ok-behind.ensures c.in_ok-written.ensures)

pub commas-preserved : goal.commas-preserved
commas-preserved c =
    let same : c.in_ok-all.all ≡ with_one c.commas.all c.in_ok-written.written = c.in_ok-all.ensures in
    let step =
    more_named c.commas.all c.in_ok-written.written c.commas.rest.now c.in_ok-written.behind.now
    (comma_read param c.in_ok-written.written (kinds c.commas.rest.now) (kinds c.in_ok-behind.behind.now) (kinds c.in_ok-written.behind.now) c.in_ok-behind.ensures c.in_ok-written.ensures) in
    rw same (record { few = few_more c.commas.all c.in_ok-written.written c.commas.invariant.few; row = step ∙ c.commas.invariant.row })
