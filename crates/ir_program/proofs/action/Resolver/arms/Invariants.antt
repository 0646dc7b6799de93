-- the cases so far
use Rattle.std.proofs.Common.{◌≡◌, map, take}
use Rattle.ir_program.specs.Exits.{arm_of}
use Rattle.ir_program.proofs.action.Resolver.arms.Given as goal

abbrev pub invariant-loop-c : goal.invariant-loop-c
invariant-loop-c l = l.arms ≡ map (arm_of l.self.context.now l.labels) (take l.c-index l.cases)
