-- what is left decides
use Rattle.std.proofs.Common.{◌≡◌, drop}
use Rattle.ir_run.specs.Turns.{arm_chosen}
use Rattle.ir_run.proofs.leaving.choose.Given as goal

abbrev pub invariant-loop-a : goal.invariant-loop-a
invariant-loop-a l = arm_chosen l.v l.default (drop l.a-index l.arms) ≡ arm_chosen l.v l.default l.arms
