use Rattle.std.proofs.Common.{◌≡◌, None, replicate}
use Rattle.obj_assemble.proofs.ends.no_ends.Given as goal

abbrev pub invariant-loop-slot : goal.invariant-loop-slot
invariant-loop-slot l = l.all ≡ replicate l._slot None
