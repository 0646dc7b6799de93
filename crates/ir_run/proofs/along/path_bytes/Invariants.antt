-- the bytes so far and those of the rest are those of all
use Rattle.std.proofs.Common.{◌≡◌, ◌<◌, ◌^◌, drop}
use Rattle.ir_run.specs.Strides.{stride_total}
use Rattle.ir_run.proofs.StrideLaws.{sum_from}
use Rattle.ir_run.proofs.along.path_bytes.Given as goal

abbrev pub invariant-loop-s : goal.invariant-loop-s
invariant-loop-s l = record {
  sum : sum_from l.bytes (stride_total l.registers (drop l.s-index l.path.strides)) ≡ sum_from l.path.constant (stride_total l.registers l.path.strides);
  small : l.bytes < 2 ^ 64;
}
