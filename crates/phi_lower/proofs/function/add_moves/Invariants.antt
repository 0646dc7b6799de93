-- the moves so far
use Rattle.std.proofs.Common.{◌≡◌, ◌++◌, map, take}
use Rattle.low_core.specs.Plain.{move_of}
use Rattle.phi_lower.proofs.function.add_moves.Given as goal

abbrev pub invariant-loop-i : goal.invariant-loop-i
invariant-loop-i l = l.all ≡ l.initial.all ++ map move_of (take l.i-index l.insts)
