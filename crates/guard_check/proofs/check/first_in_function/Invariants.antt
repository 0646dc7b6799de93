use Rattle.std.proofs.Common.{◌-◌, length}
use Rattle.guard_check.proofs.Walked.{Walk}
use Rattle.guard_check.proofs.check.first_in_function.Given as goal

abbrev pub invariant-loop-here : goal.invariant-loop-here
invariant-loop-here l = Walk l.rule l.slots l.function l.bytes l.at l.count

abbrev pub decreases-loop-here : goal.decreases-loop-here
decreases-loop-here l = length l.bytes - l.at
