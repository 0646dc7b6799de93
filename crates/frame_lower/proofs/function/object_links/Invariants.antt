use Rattle.std.proofs.Common.{◌≡◌, map, take}
use Rattle.frame_lower.specs.Writing.{link_of}
use Rattle.frame_lower.proofs.function.object_links.Given as goal

abbrev pub invariant-loop-l : goal.invariant-loop-l
invariant-loop-l l = l.all ≡ map link_of (take l.l-index l.links)
