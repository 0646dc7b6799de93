use Rattle.std.proofs.Common.{◌≡◌, take}
use Rattle.xom_memory.proofs.memory.copies.Given as goal

abbrev pub invariant-loop-segment : goal.invariant-loop-segment
invariant-loop-segment l = l.parts.items ≡ take l.segment-index l.segments
