-- the last of the moves are done
use Rattle.std.proofs.Common.{◌≡◌, drop}
use Rattle.ir_run.specs.Turns.{with_moves}
use Rattle.ir_run.proofs.leaving.give_all.Given as goal

abbrev pub invariant-loop-i : goal.invariant-loop-i
invariant-loop-i l = l.registers ≡ with_moves (drop l.i l.moves) (drop l.i l.values) l.initial.registers
