-- the values so far and those of the rest are those of all
use Rattle.std.proofs.Common.{◌≡◌, drop}
use Rattle.ir_run.specs.Turns.{move_values}
use Rattle.ir_run.proofs.ReadLaws.{behind}
use Rattle.ir_run.proofs.reading.read_moves.Given as goal

abbrev pub invariant-loop-m : goal.invariant-loop-m
invariant-loop-m l = behind l.values.items (move_values l.registers (drop l.m-index l.moves)) ≡ move_values l.registers l.moves
