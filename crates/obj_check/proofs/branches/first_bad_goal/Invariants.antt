use Rattle.std.proofs.Common.{◌-◌, length}
use Rattle.obj_core.specs.Disassembly.{found, disassembly_of}
use Rattle.obj_check.proofs.Walk.{Left}
use Rattle.obj_check.proofs.branches.first_bad_goal.Given as goal

abbrev pub invariant-loop-here : goal.invariant-loop-here
invariant-loop-here l = Left l.bytes l.function.links (found (disassembly_of l.function.bytes)) l.fn.before l.at l.least

abbrev pub decreases-loop-here : goal.decreases-loop-here
decreases-loop-here l = length l.bytes - l.at
