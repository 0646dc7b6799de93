use Rattle.std.proofs.Common.{take}
use Rattle.obj_core.specs.Object.{Each, IsSlot}
use Rattle.obj_check.proofs.known.slots_known.Given as goal

-- those so far
abbrev pub invariant-loop-slot : goal.invariant-loop-slot
invariant-loop-slot l = Each IsSlot (take l.slot-index l.slots)
