use Rattle.std.proofs.Common.{◌-◌, length}
use Rattle.guard_check.proofs.Ahead.{Ahead}
use Rattle.guard_check.proofs.inside.is_inside.Given as goal

abbrev pub invariant-loop-here : goal.invariant-loop-here
invariant-loop-here l = Ahead l.slots l.function l.bytes l.off l.at l.but

abbrev pub decreases-loop-here : goal.decreases-loop-here
decreases-loop-here l = length l.bytes - l.at
