use Rattle.std.proofs.Common.{◌≡◌, map, take}
use Rattle.frame_lower.specs.Functions.{slot_number}
use Rattle.frame_lower.proofs.program.addresses.Given as goal

abbrev pub invariant-loop-p : goal.invariant-loop-p
invariant-loop-p l = l.all ≡ map slot_number (take l.p-index l.pointers)
