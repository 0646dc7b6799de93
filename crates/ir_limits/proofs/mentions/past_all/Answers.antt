use Rattle.std.proofs.Common.{◌∙◌, sym}
use Rattle.ir_limits.specs.Past.{past_in}
use Rattle.ir_limits.proofs.PastLaws.{past_in-none, past_in-append, found, passed, ended}
use Rattle.ir_limits.proofs.mentions.past_all.Goals as goal

pub returns-in-Some : goal.returns-in-Some
returns-in-Some g c =
    found (past_in c.args.gauge.now) (past_in-append c.args.gauge.now) g.T.Mentions.mentioned c.args.items.now c.loop-item.item-index _ c.loop-item.invariant
    c.item-item.result c.loop-item-test.true c.item-item.is c.in-Some.count (sym c.in-Some.is ∙ c.past_types.ensures)

pub loop-item-preserved : goal.loop-item-preserved
loop-item-preserved g c =
    passed (past_in c.args.gauge.now) (past_in-append c.args.gauge.now) g.T.Mentions.mentioned c.args.items.now c.loop-item.item-index _ c.loop-item.invariant
    c.item-item.result c.loop-item-test.true c.item-item.is (sym c.in-None.is ∙ c.past_types.ensures)

pub returns : goal.returns
returns g c =
    ended (past_in c.args.gauge.now) (past_in-append c.args.gauge.now) g.T.Mentions.mentioned c.args.items.now c.loop-item.item-index _ c.loop-item.invariant
    c.loop-item-test.false (past_in-none c.args.gauge.now)
