use Rattle.std.proofs.Common.{◌≡◌, ◌++◌, drop}
use Rattle.slot_plan.specs.Slots.{jumps_from}
use Rattle.slot_plan.proofs.add_jumps.Given as goal

-- what is left to add is the jumps of the functions that are left
abbrev pub invariant-loop-f : goal.invariant-loop-f
invariant-loop-f l = l.slots ++ jumps_from l.f (drop l.f l.taken) ≡ l.fn.slots ++ jumps_from 0 l.taken
