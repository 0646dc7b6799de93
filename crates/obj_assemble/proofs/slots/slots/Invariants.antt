use Rattle.std.proofs.Common.{◌≡◌, ◌++◌, drop}
use Rattle.obj_assemble.specs.Made.{slots_made}
use Rattle.obj_assemble.proofs.slots.slots.Given as goal

-- the slots that are left are still to be made
abbrev pub invariant-loop-k : goal.invariant-loop-k
invariant-loop-k l = l.all ++ slots_made (drop l.k l.planned) (drop l.k l.ends) ≡ slots_made l.planned l.ends
