-- the blocks so far
use Rattle.std.proofs.Common.{◌≡◌, map, take}
use Rattle.ir_program.specs.Programs.{stretch_of}
use Rattle.ir_program.proofs.action.Resolver.stretches.Given as goal

abbrev pub invariant-loop-b : goal.invariant-loop-b
invariant-loop-b l = l.stretches ≡ map (stretch_of l.self.context.now l.self.names.now l.scope.blocks) (take l.b-index l.blocks)
