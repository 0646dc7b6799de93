use Rattle.std.proofs.Common.{◌≡◌, ◌+◌, ◌≤◌, length, take, drop}
use Rattle.obj_file.proofs.part.expect.Given as goal

-- the wanted bytes so far stand there
abbrev pub invariant-loop-i : goal.invariant-loop-i
invariant-loop-i l = (take l.i l.wanted ≡ take l.i (drop l.at l.bytes)) × (l.at + l.i ≤ length l.bytes)
