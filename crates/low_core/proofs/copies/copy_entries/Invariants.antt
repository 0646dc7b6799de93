-- what was copied so far
use Rattle.std.proofs.Common.{◌≡◌, take}
use Rattle.low_core.proofs.copies.copy_entries.Given as goal

abbrev pub invariant-loop-e : goal.invariant-loop-e
invariant-loop-e l = l.all ≡ take l.e-index l.entries
