-- the arguments so far
use Rattle.std.proofs.Common.{◌≡◌, map, take}
use Rattle.ir_program.specs.Actions.{argument_of}
use Rattle.ir_program.proofs.action.Resolver.arguments.Given as goal

abbrev pub invariant-loop-a : goal.invariant-loop-a
invariant-loop-a l = l.all ≡ map (argument_of l.self.context.now l.self.names.now) (take l.a-index l.args)
