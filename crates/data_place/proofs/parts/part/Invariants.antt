use Rattle.std.proofs.Common.{◌≡◌, map, take}
use Rattle.low_core.specs.Placing.{part_bytes}
use Rattle.data_place.specs.Placed.{addresses_in}
use Rattle.data_place.specs.Starts.{told_content}
use Rattle.data_place.proofs.parts.part.Given as goal

-- the part of the globals so far
abbrev pub invariant-loop-g : goal.invariant-loop-g
invariant-loop-g l = l.bytes ≡ part_bytes l.constant (map (told_content l.context (addresses_in l.words.globals.now l.words.pointers.now)) (take l.g-index l.globals))
