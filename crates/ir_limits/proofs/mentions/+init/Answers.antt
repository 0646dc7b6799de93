use Rattle.std.proofs.Common.{◌∙◌, ◌∷◌, sym}
use Rattle.ir_core.specs.declared.init.Elem.{Elem}
use Rattle.ir_core.specs.Mentions.{OfType, of_init}
use Rattle.ir_limits.specs.Past.{past_in}
use Rattle.ir_limits.proofs.PastLaws.{past_in-none, past_in-append, found, passed, ended}
use Rattle.ir_limits.proofs.mentions.+init.Goals as goal

pub past_elems-returns-in-Some : goal.past_elems-returns-in-Some
past_elems-returns-in-Some t c =
    found (past_in c.args.gauge.now) (past_in-append c.args.gauge.now) (λ (e : Elem). OfType e.ty ∷ of_init e.init) c.args.es.now c.loop-e.e-index _ c.loop-e.invariant
    c.e-item.result c.loop-e-test.true c.e-item.is c.in-Some.count (sym c.in-Some.is ∙ c.past_elem.ensures)

pub past_elems-loop-e-preserved : goal.past_elems-loop-e-preserved
past_elems-loop-e-preserved t c =
    passed (past_in c.args.gauge.now) (past_in-append c.args.gauge.now) (λ (e : Elem). OfType e.ty ∷ of_init e.init) c.args.es.now c.loop-e.e-index _ c.loop-e.invariant
    c.e-item.result c.loop-e-test.true c.e-item.is (sym c.in-None.is ∙ c.past_elem.ensures)

pub past_elems-returns : goal.past_elems-returns
past_elems-returns t c =
    ended (past_in c.args.gauge.now) (past_in-append c.args.gauge.now) (λ (e : Elem). OfType e.ty ∷ of_init e.init) c.args.es.now c.loop-e.e-index _ c.loop-e.invariant
    c.loop-e-test.false (past_in-none c.args.gauge.now)
