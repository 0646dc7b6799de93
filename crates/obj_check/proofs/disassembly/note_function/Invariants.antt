use Rattle.std.proofs.Common.{◌-◌, length}
use Rattle.obj_check.proofs.Noting.{NotedTo}
use Rattle.obj_check.proofs.disassembly.note_function.Given as goal

-- the instructions up to the offset are noted
abbrev pub invariant-loop-at : goal.invariant-loop-at
invariant-loop-at l = NotedTo l.bytes l.at l.notes

abbrev pub decreases-loop-at : goal.decreases-loop-at
decreases-loop-at l = length l.bytes - l.at
