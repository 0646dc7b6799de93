-- the values so far and those of the rest are those of all
use Rattle.std.proofs.Common.{◌≡◌, drop}
use Rattle.ir_program.specs.Reads.{argument_values}
use Rattle.ir_run.proofs.ReadLaws.{behind}
use Rattle.ir_run.proofs.reading.read_arguments.Given as goal

abbrev pub invariant-loop-a : goal.invariant-loop-a
invariant-loop-a l = behind l.values.items (argument_values l.registers (drop l.a-index l.arguments)) ≡ argument_values l.registers l.arguments
