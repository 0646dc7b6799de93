use Rattle.std.proofs.Common.{◌≡◌, ℕ, List, [], ◌++◌, None, Some, true, take, drop}
use Rattle.x86_core.specs.Machine.{machine_step}
use Rattle.x86_core.specs.Run.{run_over}
use Rattle.xom_machine.specs.Standing.{state_of, streams}
use Rattle.watch_script.specs.Acts.{acts_to}
use Rattle.watch_script.specs.Events.{are_in_order, last_after}
use Rattle.watch_script.specs.Report.{replies_of}
use Rattle.watch_script.specs.Suiting.{are_suited}
use Rattle.watch_script.specs.Watching.{Acted}
use Rattle.watch_script.proofs.Events.{Until}
use Rattle.watch_script.proofs.watch.replies.Given as goal

-- the acts so far, and the replies; those that are left are the others
abbrev pub invariant-loop-event : goal.invariant-loop-event
invariant-loop-event g l = record {
  acted : Acted (acts_to l.done (take l.event-index l.events)) l.fn.machine l.machine
      (streams (g.I.Source.told l.fn.input).left None (Some l.fn.sink.count))
      (streams (g.I.Source.told l.input).left None (Some l.sink.count));
  suited : are_suited (take l.event-index l.events) l.all ≡ true;
  replies : (xs : List ℕ) → (g.I.Source.told l.fn.input).left ≡ Some xs →
      l.all ++ replies_of (λ acts. run_over machine_step acts (state_of l.fn.machine xs [] 0)) (take l.event-index l.events) (drop l.event-index l.events) ≡
      replies_of (λ acts. run_over machine_step acts (state_of l.fn.machine xs [] 0)) [] l.events;
  past : Until l.done (take l.event-index l.events);
  order : are_in_order l.done (drop l.event-index l.events) ≡ true;
  last : last_after l.done (drop l.event-index l.events) ≡ last_after 0 l.events;
  faults : (g.I.Source.told l.input).faults ≡ (g.I.Source.told l.fn.input).faults;
}
