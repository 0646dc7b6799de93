-- the indices so far
use Rattle.std.proofs.Common.{◌≡◌, map, take}
use Rattle.ir_core.specs.Valid.{named_locals}
use Rattle.ir_context.specs.Origins.{arg_origin}
use Rattle.isel_rows.proofs.selector.Selector.indices.Given as goal

abbrev pub invariant-loop-a : goal.invariant-loop-a
invariant-loop-a l = l.origins ≡ map (arg_origin l.self.context.now (named_locals l.self.variables.now)) (take l.a-index l.args)
