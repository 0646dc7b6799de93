use Rattle.std.proofs.Common.{◌≡◌, ◌++◌, drop}
use Rattle.obj_core.specs.Object.{slots_bytes}
use Rattle.obj_file.proofs.write.put_slots.Given as goal

-- the bytes so far, and those of the slots that are left, are the whole
abbrev pub invariant-loop-slot : goal.invariant-loop-slot
invariant-loop-slot l = l.out ++ slots_bytes (drop l.slot-index l.slots) ≡ l.fn.out ++ slots_bytes l.slots
