-- the rest of the objects leave what all of them leave
use Rattle.std.proofs.Common.{◌≡◌, length}
use Rattle.ir_core.specs.Memory.{without}
use Rattle.ir_run.proofs.calling.forget.Given as goal

abbrev pub invariant-all : goal.invariant-all
invariant-all l = without l.memory l.objects ≡ without l.initial.memory l.initial.objects

abbrev pub decreases-all : goal.decreases-all
decreases-all l = length l.objects
