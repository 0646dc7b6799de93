-- the instructions so far
use Rattle.std.proofs.Common.{◌≡◌, map, take}
use Rattle.ir_program.specs.Actions.{task_of}
use Rattle.ir_program.proofs.action.Resolver.tasks.Given as goal

abbrev pub invariant-loop-i : goal.invariant-loop-i
invariant-loop-i l = l.all ≡ map (task_of l.self.context.now l.self.names.now) (take l.i-index l.insts)
