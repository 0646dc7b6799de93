use Rattle.std.proofs.Common.{◌≡◌, drop}
use Rattle.obj_core.specs.WellFormed.{agrees_with, in_slots}
use Rattle.obj_check.proofs.slots.first_bad_entry.Given as goal

abbrev pub invariant-loop-k : goal.invariant-loop-k
invariant-loop-k l = in_slots 7 agrees_with l.k (drop l.k l.slots) ≡ in_slots 7 agrees_with 0 l.slots
