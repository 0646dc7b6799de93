use Rattle.std.proofs.Common.{◌≡◌, ℕ, true, ◌++◌, ◌+◌, ◌-◌, ◌≤◌, List, [], length, get_or, take, drop, None, Some, refl, sym, ap, subst, ◌∙◌, arith}
use Rattle.std.proofs.lemmas.List.{append-nil}
use Rattle.std.proofs.Math.ListN.{drop_of_length-le}
use Rattle.x86_core.specs.Machine.{machine_step}
use Rattle.x86_core.specs.Run.{run_over}
use Rattle.behavior.specs.System.{iter}
use Rattle.xom_machine.specs.Calls.{Took}
use Rattle.xom_machine.specs.Standing.{state_of, streams, StreamsTold}
use Rattle.watch_script.specs.declared.event.Event.{Event}
use Rattle.watch_script.specs.Acts.{acts_to}
use Rattle.watch_script.specs.Events.{after_of, are_in_order, last_after}
use Rattle.watch_script.specs.Report.{reply_in, replies_of}
use Rattle.watch_script.specs.Suiting.{are_suited}
use Rattle.watch_script.specs.Watching.{Acted, Halted}
use Rattle.watch_script.proofs.Events.{Since, Until}
use Rattle.watch_script.proofs.Grown.{acted_none}
use Rattle.watch_script.proofs.Suits.{suits}
use Rattle.watch_script.proofs.Watches.{behind, halted_on, Place, place_of, since_place, parted, arrived, gone, past_more, all_suited, reply_more, answered}
use Rattle.watch_script.proofs.watch.replies.Goals as goal

pub loop-event-init : goal.loop-event-init
loop-event-init g c = record { acted = acted_none _ _ _ refl; suited = ap (λ rs. are_suited [] rs) c.new-all.ensures; replies = λ xs h. rw c.new-all.ensures refl; past = tt; order = c.requires; last = refl; faults = refl }

pub answer-requires-clause-some : goal.answer-requires-clause-some
answer-requires-clause-some g c = (place_of c.loop-event.done c.args.events.now c.loop-event.event-index c.event-item.result c.loop-event-test.true c.event-item.is c.loop-event.invariant.order).some

pub answer-requires-clause-few : goal.answer-requires-clause-few
answer-requires-clause-few g c = (place_of c.loop-event.done c.args.events.now c.loop-event.event-index c.event-item.result c.loop-event-test.true c.event-item.is c.loop-event.invariant.order).few

pub returns-in-Err-clause-halted : goal.returns-in-Err-clause-halted
returns-in-Err-clause-halted g c =
    let e : Event = c.event-item.result in
    let i = c.loop-event.event-index in
    let p : Place c.loop-event.done (drop i c.args.events.now) (drop (i + 1) c.args.events.now) e = place_of c.loop-event.done c.args.events.now i e c.loop-event-test.true c.event-item.is c.loop-event.invariant.order in
    let late : c.loop-event.done ≤ after_of e = p.late in
    let early : after_of e ≤ last_after c.loop-event.done (drop i c.args.events.now) = p.early in
    let last : last_after c.loop-event.done (drop i c.args.events.now) ≡ last_after 0 c.args.events.now = c.loop-event.invariant.last in
    let before : StreamsTold = streams (g.I.Source.told c.args.input.now).left None (Some c.args.sink.now.count) in
    let start : StreamsTold = streams (g.I.Source.told c.loop-event.input).left None (Some c.loop-event.sink.count) in
    let sum : c.loop-event.done + (after_of e - c.loop-event.done) ≡ after_of e = omega arith in
    halted_on c.args.events.now (take i c.args.events.now) (drop i c.args.events.now) (parted c.args.events.now i) c.args.machine.now c.loop-event.machine before start
    c.loop-event.done (after_of e - c.loop-event.done) (last_after 0 c.args.events.now) (g.I.Source.told c.advance.new.input).left c.in-Err.fault c.loop-event.invariant.past
    (subst (λ n. Since n (drop i c.args.events.now)) (sym sum) (since_place c.loop-event.done c.args.events.now i e c.loop-event-test.true c.event-item.is c.loop-event.invariant.order)) (omega arith) c.loop-event.invariant.acted
    (subst (λ n. (ys : List ℕ) → start.left ≡ Some ys → Halted (λ j. iter machine_step j (state_of c.loop-event.machine ys [] 0)) (n - c.loop-event.done) (g.I.Source.told c.advance.new.input).left c.in-Err.fault) c.after.ensures c.in-Err.ensures.halted)

pub returns-in-Err-add-clause-halted : goal.returns-in-Err-add-clause-halted
returns-in-Err-add-clause-halted g c =
    let e : Event = c.event-item.result in
    let i = c.loop-event.event-index in
    let p : Place c.loop-event.done (drop i c.args.events.now) (drop (i + 1) c.args.events.now) e = place_of c.loop-event.done c.args.events.now i e c.loop-event-test.true c.event-item.is c.loop-event.invariant.order in
    let late : c.loop-event.done ≤ after_of e = p.late in
    let early : after_of e ≤ last_after c.loop-event.done (drop i c.args.events.now) = p.early in
    let last : last_after c.loop-event.done (drop i c.args.events.now) ≡ last_after 0 c.args.events.now = c.loop-event.invariant.last in
    let before : StreamsTold = streams (g.I.Source.told c.args.input.now).left None (Some c.args.sink.now.count) in
    let start : StreamsTold = streams (g.I.Source.told c.loop-event.input).left None (Some c.loop-event.sink.count) in
    let now : StreamsTold = streams (g.I.Source.told c.advance.new.input).left None (Some c.advance.new.sink.count) in
    let here : Acted (acts_to (after_of e) (take i c.args.events.now)) c.args.machine.now c.advance.new.machine before now =
    arrived c.loop-event.done (take i c.args.events.now) e c.args.machine.now c.loop-event.machine c.advance.new.machine before start now late c.loop-event.invariant.past c.loop-event.invariant.acted (subst (λ n. Took (n - c.loop-event.done) c.loop-event.machine c.advance.new.machine start now) c.after.ensures c.in-Ok.ensures.did) in
    behind c.args.events.now (take i c.args.events.now) (drop i c.args.events.now) (parted c.args.events.now i) c.args.machine.now c.advance.new.machine before now (after_of e) (last_after 0 c.args.events.now)
    (since_place c.loop-event.done c.args.events.now i e c.loop-event-test.true c.event-item.is c.loop-event.invariant.order) (omega arith) here

pub returns-in-Err-answer-clause-halted : goal.returns-in-Err-answer-clause-halted
returns-in-Err-answer-clause-halted g c =
    let e : Event = c.event-item.result in
    let i = c.loop-event.event-index in
    let p : Place c.loop-event.done (drop i c.args.events.now) (drop (i + 1) c.args.events.now) e = place_of c.loop-event.done c.args.events.now i e c.loop-event-test.true c.event-item.is c.loop-event.invariant.order in
    let late : c.loop-event.done ≤ after_of e = p.late in
    let early : after_of e ≤ last_after c.loop-event.done (drop i c.args.events.now) = p.early in
    let last : last_after c.loop-event.done (drop i c.args.events.now) ≡ last_after 0 c.args.events.now = c.loop-event.invariant.last in
    let before : StreamsTold = streams (g.I.Source.told c.args.input.now).left None (Some c.args.sink.now.count) in
    let start : StreamsTold = streams (g.I.Source.told c.loop-event.input).left None (Some c.loop-event.sink.count) in
    let now : StreamsTold = streams (g.I.Source.told c.advance.new.input).left None (Some c.advance.new.sink.count) in
    let here : Acted (acts_to (after_of e) (take i c.args.events.now)) c.args.machine.now c.advance.new.machine before now =
    arrived c.loop-event.done (take i c.args.events.now) e c.args.machine.now c.loop-event.machine c.advance.new.machine before start now late c.loop-event.invariant.past c.loop-event.invariant.acted (subst (λ n. Took (n - c.loop-event.done) c.loop-event.machine c.advance.new.machine start now) c.after.ensures c.in-Ok.ensures.did) in
    behind c.args.events.now (take i c.args.events.now) (drop i c.args.events.now) (parted c.args.events.now i) c.args.machine.now c.advance.new.machine before now (after_of e) (last_after 0 c.args.events.now)
    (since_place c.loop-event.done c.args.events.now i e c.loop-event-test.true c.event-item.is c.loop-event.invariant.order) (omega arith) here

pub loop-event-preserved : goal.loop-event-preserved
loop-event-preserved g c =
    let e : Event = c.event-item.result in
    let i = c.loop-event.event-index in
    let p : Place c.loop-event.done (drop i c.args.events.now) (drop (i + 1) c.args.events.now) e = place_of c.loop-event.done c.args.events.now i e c.loop-event-test.true c.event-item.is c.loop-event.invariant.order in
    let late : c.loop-event.done ≤ after_of e = p.late in
    let early : after_of e ≤ last_after c.loop-event.done (drop i c.args.events.now) = p.early in
    let last : last_after c.loop-event.done (drop i c.args.events.now) ≡ last_after 0 c.args.events.now = c.loop-event.invariant.last in
    let before : StreamsTold = streams (g.I.Source.told c.args.input.now).left None (Some c.args.sink.now.count) in
    let start : StreamsTold = streams (g.I.Source.told c.loop-event.input).left None (Some c.loop-event.sink.count) in
    let now : StreamsTold = streams (g.I.Source.told c.advance.new.input).left None (Some c.advance.new.sink.count) in
    let here : Acted (acts_to (after_of e) (take i c.args.events.now)) c.args.machine.now c.advance.new.machine before now =
    arrived c.loop-event.done (take i c.args.events.now) e c.args.machine.now c.loop-event.machine c.advance.new.machine before start now late c.loop-event.invariant.past c.loop-event.invariant.acted (subst (λ n. Took (n - c.loop-event.done) c.loop-event.machine c.advance.new.machine start now) c.after.ensures c.in-Ok.ensures.did) in
    let is : c.after-done.result ≡ after_of e = c.after-done.ensures in
    let answer : (xs : List ℕ) → before.left ≡ Some xs → c.in-Ok-answer.reply ≡ reply_in e (run_over machine_step (acts_to (after_of e) (take i c.args.events.now)) (state_of c.args.machine.now xs [] 0)) =
    λ xs h. answered (acts_to (after_of e) (take i c.args.events.now)) c.args.machine.now c.advance.new.machine before now e c.in-Ok-answer.reply xs here h c.in-Ok-answer.ensures.reply in
    record {
      acted = subst (λ n. Acted (acts_to n (take (i + 1) c.args.events.now)) c.args.machine.now c.answer.new.machine before now) (sym is)
          (gone c.args.events.now i e c.args.machine.now c.advance.new.machine c.answer.new.machine before now c.loop-event-test.true c.event-item.is here c.in-Ok-answer.ensures.done);
      suited = all_suited c.args.events.now i e c.loop-event.all c.add.new.self c.in-Ok-answer.reply c.loop-event-test.true c.event-item.is c.loop-event.invariant.suited
          (suits e (state_of c.advance.new.machine [] [] 0) c.in-Ok-answer.reply (c.in-Ok-answer.ensures.reply [] [] 0)) c.in-Ok-add.ensures.put;
      replies = λ xs h. reply_more (λ acts. run_over machine_step acts (state_of c.args.machine.now xs [] 0)) c.args.events.now c.loop-event.all c.add.new.self i e c.in-Ok-answer.reply c.loop-event-test.true c.event-item.is
          (answer xs h) c.in-Ok-add.ensures.put (c.loop-event.invariant.replies xs h);
      past = subst (λ n. Until n (take (i + 1) c.args.events.now)) (sym is) (past_more c.args.events.now i e c.loop-event.done c.loop-event-test.true c.event-item.is late c.loop-event.invariant.past);
      order = subst (λ n. are_in_order n (drop (i + 1) c.args.events.now) ≡ true) (sym is) p.order;
      last = ap (λ n. last_after n (drop (i + 1) c.args.events.now)) is ∙ (p.last ∙ c.loop-event.invariant.last);
      faults = c.in-Ok.ensures.charged ∙ c.loop-event.invariant.faults;
    }

pub returns-clause-replies : goal.returns-clause-replies
returns-clause-replies g c = λ xs h.
    sym (append-nil c.loop-event.all) ∙ (ap (λ es. c.loop-event.all ++ replies_of (λ acts. run_over machine_step acts (state_of c.args.machine.now xs [] 0)) (take c.loop-event.event-index c.args.events.now) es) (sym (drop_of_length-le c.args.events.now (omega arith))) ∙ c.loop-event.invariant.replies xs h)
