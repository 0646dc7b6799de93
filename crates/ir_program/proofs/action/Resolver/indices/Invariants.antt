-- the indices so far
use Rattle.std.proofs.Common.{◌≡◌, map, take}
use Rattle.ir_context.specs.Origins.{arg_origin}
use Rattle.ir_program.proofs.action.Resolver.indices.Given as goal

abbrev pub invariant-loop-a : goal.invariant-loop-a
invariant-loop-a l = l.origins ≡ map (arg_origin l.self.context.now l.self.names.now) (take l.a-index l.args)
