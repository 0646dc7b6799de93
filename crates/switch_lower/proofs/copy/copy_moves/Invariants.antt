-- the copies so far
use Rattle.std.proofs.Common.{◌≡◌, take}
use Rattle.switch_lower.proofs.copy.copy_moves.Given as goal

abbrev pub invariant-loop-x : goal.invariant-loop-x
invariant-loop-x l = l.all ≡ take l.x-index l.moves
