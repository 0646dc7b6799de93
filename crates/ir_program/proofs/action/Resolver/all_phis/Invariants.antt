-- the blocks so far
use Rattle.std.proofs.Common.{◌≡◌, map, take}
use Rattle.ir_program.specs.Phis.{phis_in}
use Rattle.ir_program.proofs.action.Resolver.all_phis.Given as goal

abbrev pub invariant-loop-b : goal.invariant-loop-b
invariant-loop-b l = l.rows ≡ map (phis_in l.self.context.now l.self.names.now) (take l.b-index l.blocks)
