use Rattle.std.proofs.Common.{ap, ◌∙◌, sym}
use Rattle.rd_io.specs.declared.sure.CountSink.{CountSink}
use Rattle.watch_script.proofs.Watches.{none_taken, reported, halted_from}
use Rattle.watch_script.proofs.watch.watch.Goals as goal

pub returns-in-Ok-replies-clause-answers : goal.returns-in-Ok-replies-clause-answers
returns-in-Ok-replies-clause-answers g c =
    reported c.args.image.now c.events-2.result.now c.args.script.now.events c.events-2.ensures.events c.in-Ok.machine c.replies.new.machine c.in-Ok.ensures
    (g.I.Source.told c.args.input.now).left (g.I.Source.told c.replies.new.input).left _ c.new-sink.result.count c.replies.new.sink.count
    (ap (λ (s : CountSink). s.count) c.new-sink.ensures) c.in-Ok-replies.ensures.did
    (c.in-Ok-copy_list.ensures ∙ (c.events.ensures.events ∙ sym c.events-2.ensures.events)) c.in-Ok-replies.ensures.replies c.outcome.ensures c.count.ensures

pub returns-clause-answers : goal.returns-clause-answers
returns-clause-answers g c =
    halted_from c.args.image.now c.events-2.result.now c.args.script.now.events c.events-2.ensures.events c.in-Ok.machine c.replies.new.machine c.in-Ok.ensures
    (g.I.Source.told c.args.input.now).left (g.I.Source.told c.replies.new.input).left c.in-Err-replies.fault c.in-Err-replies.ensures.halted

pub returns-in-Err-clause-answers : goal.returns-in-Err-clause-answers
returns-in-Err-clause-answers g c = λ xs e. none_taken c.args.image.now c.args.script.now.events _ _ xs e

pub returns-in-Err-copy_list-clause-answers : goal.returns-in-Err-copy_list-clause-answers
returns-in-Err-copy_list-clause-answers g c = λ xs e. none_taken c.args.image.now c.args.script.now.events _ _ xs e
