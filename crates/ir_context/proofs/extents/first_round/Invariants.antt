-- a row for each type so far
use Rattle.std.proofs.Common.{◌≡◌, take}
use Rattle.ir_core.specs.Sizes.{first_rows}
use Rattle.ir_context.proofs.extents.first_round.Given as goal

abbrev pub invariant-loop-t : goal.invariant-loop-t
invariant-loop-t l = l.rows ≡ first_rows (take l._t-index l.types)
