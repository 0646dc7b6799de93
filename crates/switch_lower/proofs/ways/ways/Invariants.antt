-- the ways so far
use Rattle.std.proofs.Common.{◌≡◌}
use Rattle.switch_lower.proofs.ways.ways.Given as goal

abbrev pub invariant-loop-way : goal.invariant-loop-way
invariant-loop-way l = l.all ≡ l.yielded
