use Rattle.std.proofs.Common.{◌∙◌, sym}
use Rattle.ir_core.specs.declared.limit.TheConstants.{MAX_PARAMETERS}
use Rattle.ir_limits.specs.Past.{first_past}
use Rattle.ir_limits.proofs.PastLaws.{first_past-none, first_past-append, found, passed, ended}
use Rattle.ir_limits.proofs.params.past_all.Goals as goal

pub returns-in-Some : goal.returns-in-Some
returns-in-Some g c =
    found (first_past MAX_PARAMETERS) (first_past-append MAX_PARAMETERS) g.T.Counted.counts_of c.args.items.now c.loop-item.item-index _ c.loop-item.invariant
    c.item-item.result c.loop-item-test.true c.item-item.is c.in-Some.count (sym c.in-Some.is ∙ c.past_counts.ensures)

pub loop-item-preserved : goal.loop-item-preserved
loop-item-preserved g c =
    passed (first_past MAX_PARAMETERS) (first_past-append MAX_PARAMETERS) g.T.Counted.counts_of c.args.items.now c.loop-item.item-index _ c.loop-item.invariant
    c.item-item.result c.loop-item-test.true c.item-item.is (sym c.in-None.is ∙ c.past_counts.ensures)

pub returns : goal.returns
returns g c =
    ended (first_past MAX_PARAMETERS) (first_past-append MAX_PARAMETERS) g.T.Counted.counts_of c.args.items.now c.loop-item.item-index _ c.loop-item.invariant
    c.loop-item-test.false (first_past-none MAX_PARAMETERS)
