use Rattle.std.proofs.Common.{◌≡◌, ◌++◌, map, take}
use Rattle.low_core.specs.Contents.{cell_byte}
use Rattle.data_place.specs.Placed.{addresses_in}
use Rattle.data_place.proofs.parts.put_cells.Given as goal

-- the bytes so far
abbrev pub invariant-loop-c : goal.invariant-loop-c
invariant-loop-c l = l.bytes ≡ l.fn.bytes ++ map (cell_byte (addresses_in l.words.globals.now l.words.pointers.now)) (take l.c-index l.cells)
