-- what was copied so far
use Rattle.std.proofs.Common.{◌≡◌, take}
use Rattle.low_core.proofs.copies.copy_indices.Given as goal

abbrev pub invariant-loop-i : goal.invariant-loop-i
invariant-loop-i l = l.all ≡ take l.i-index l.indices
