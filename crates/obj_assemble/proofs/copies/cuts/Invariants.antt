use Rattle.std.proofs.Common.{◌≡◌, take}
use Rattle.obj_assemble.proofs.copies.cuts.Given as goal

abbrev pub invariant-loop-at : goal.invariant-loop-at
invariant-loop-at l = l.all ≡ take l.at-index l.from
