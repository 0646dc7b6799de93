-- the values so far, and then so many places without one
use Rattle.std.proofs.Common.{◌≡◌, ◌++◌, map, take, replicate, Some, None}
use Rattle.ir_context.proofs.registers.Registers.with_values.Given as goal

abbrev pub invariant-loop-v : goal.invariant-loop-v
invariant-loop-v l = l.kept.items ≡ map Some (take l.v-index l.values)

abbrev pub invariant-rest : goal.invariant-rest
invariant-rest l = l.kept.items ≡ map Some l.values ++ replicate l.counter None
