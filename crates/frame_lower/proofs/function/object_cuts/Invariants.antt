use Rattle.std.proofs.Common.{◌≡◌, take}
use Rattle.frame_lower.proofs.function.object_cuts.Given as goal

abbrev pub invariant-loop-at : goal.invariant-loop-at
invariant-loop-at l = l.all ≡ take l.at-index l.cuts
