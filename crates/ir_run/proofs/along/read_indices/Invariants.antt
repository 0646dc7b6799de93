-- what is left decides
use Rattle.std.proofs.Common.{◌≡◌, drop}
use Rattle.ir_context.specs.Reads.{stride_values}
use Rattle.ir_run.proofs.ReadLaws.{told_by}
use Rattle.ir_run.proofs.along.read_indices.Given as goal

abbrev pub invariant-loop-s : goal.invariant-loop-s
invariant-loop-s l = told_by (stride_values l.registers (drop l.s-index l.strides)) ≡ told_by (stride_values l.registers l.strides)
