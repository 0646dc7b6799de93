use Rattle.obj_core.specs.Object.{IsSlot, slots_bytes}
use Rattle.obj_file.proofs.Rows.{RowRead}
use Rattle.obj_file.proofs.read.read_slots.Given as goal

-- the slots so far
abbrev pub invariant-loop : goal.invariant-loop
invariant-loop l = RowRead IsSlot slots_bytes l.bytes l.at l.end l.counter l.slots
