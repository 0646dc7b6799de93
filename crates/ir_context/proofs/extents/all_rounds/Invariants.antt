-- the rows after so many rounds
use Rattle.std.proofs.Common.{◌≡◌}
use Rattle.ir_core.specs.Sizes.{rows_after}
use Rattle.ir_context.proofs.extents.all_rounds.Given as goal

abbrev pub invariant-loop-round : goal.invariant-loop-round
invariant-loop-round l = l.rows ≡ rows_after l.types l._round
