use Rattle.std.proofs.Common.{refl, sym, ◌∙◌}
use Rattle.ir_core.specs.Refusals.{unknown_in}
use Rattle.ir_names.specs.Seen.{seen, all_seen}
use Rattle.ir_names.specs.Reached.{unknown_among}
use Rattle.ir_names.proofs.FirstLaws.{first_found, first_passed}
use Rattle.ir_names.proofs.unknown.first_of_mentions.Goals as goal

pub returns-in-Some : goal.returns-in-Some
returns-in-Some c =
    first_found (λ ms. unknown_among c.args.tables.now c.args.labels.now c.args.locals.now (all_seen ms)) (λ x. unknown_in c.args.tables.now (record { labels = c.args.labels.now; locals = c.args.locals.now }) (seen x)) (λ x xs. refl)
    c.args.mentions.now c.loop-mention.mention-index c.mention-item.result c.loop-mention-test.true c.mention-item.is _ c.loop-mention.invariant c.in-Some.marked (sym c.in-Some.is ∙ c.unknown_mention.ensures)

pub loop-mention-preserved : goal.loop-mention-preserved
loop-mention-preserved c =
    first_passed (λ ms. unknown_among c.args.tables.now c.args.labels.now c.args.locals.now (all_seen ms)) (λ x. unknown_in c.args.tables.now (record { labels = c.args.labels.now; locals = c.args.locals.now }) (seen x)) (λ x xs. refl)
    c.args.mentions.now c.loop-mention.mention-index c.mention-item.result c.loop-mention-test.true c.mention-item.is _ c.loop-mention.invariant (sym c.in-None.is ∙ c.unknown_mention.ensures)
