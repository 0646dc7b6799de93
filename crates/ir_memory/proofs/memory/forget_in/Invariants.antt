-- the rest of the numbers leaves what all of them leave
use Rattle.std.proofs.Common.{◌≡◌, drop}
use Rattle.ir_core.specs.Memory.{without}
use Rattle.ir_memory.proofs.memory.forget_in.Given as goal

abbrev pub invariant-loop-o : goal.invariant-loop-o
invariant-loop-o l = without l.objects (drop l.o-index l.numbers) ≡ without l.initial.objects l.numbers
