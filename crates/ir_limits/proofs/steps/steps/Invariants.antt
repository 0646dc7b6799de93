-- the sum so far
use Rattle.std.proofs.Common.{◌≡◌, take}
use Rattle.ir_core.specs.Counts.{told, steps_in}
use Rattle.ir_limits.proofs.steps.steps.Given as goal

abbrev pub invariant-loop-b : goal.invariant-loop-b
invariant-loop-b l = l.sum ≡ told (steps_in (take l.b-index l.blocks))
