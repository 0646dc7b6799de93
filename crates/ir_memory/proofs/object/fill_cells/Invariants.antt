-- so many cells are the byte
use Rattle.std.proofs.Common.{◌≡◌, ◌+◌, ◌++◌, take, drop, replicate}
use Rattle.ir_core.specs.declared.memory.Cell.TheVariants.{Byte}
use Rattle.ir_memory.proofs.object.fill_cells.Given as goal

abbrev pub invariant-loop-i : goal.invariant-loop-i
invariant-loop-i l = l.cells ≡ take l.from l.initial.cells ++ replicate l.i (Byte l.byte) ++ drop (l.from + l.i) l.initial.cells
