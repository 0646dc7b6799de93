-- what was copied so far
use Rattle.std.proofs.Common.{◌≡◌, take}
use Rattle.low_core.proofs.copies.copy_args.Given as goal

abbrev pub invariant-loop-a : goal.invariant-loop-a
invariant-loop-a l = l.all ≡ take l.a-index l.args
