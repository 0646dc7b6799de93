-- the indices so far
use Rattle.std.proofs.Common.{◌≡◌, map, take}
use Rattle.ir_context.specs.Origins.{index_origin}
use Rattle.ir_context.proofs.origin.literals.Given as goal

abbrev pub invariant-loop-i : goal.invariant-loop-i
invariant-loop-i l = l.origins ≡ map index_origin (take l.i-index l.indices)
