use Rattle.std.proofs.Common.{take}
use Rattle.obj_check.specs.Disassembled.{AreNoted}
use Rattle.obj_check.proofs.disassembly.note_all.Given as goal

-- the functions so far are noted
abbrev pub invariant-loop-n : goal.invariant-loop-n
invariant-loop-n l = AreNoted (take l.n l.functions) l.noted
