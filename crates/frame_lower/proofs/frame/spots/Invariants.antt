use Rattle.std.proofs.Common.{◌≡◌, map, take}
use Rattle.frame_lower.specs.Frames.{spot}
use Rattle.frame_lower.proofs.frame.spots.Given as goal

abbrev pub invariant-loop-home : goal.invariant-loop-home
invariant-loop-home l = l.all ≡ map (spot l.names l.passed) (take l.home-index l.homes)
