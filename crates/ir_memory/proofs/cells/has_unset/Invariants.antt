-- none so far is unset
use Rattle.std.proofs.Common.{◌≡◌, drop}
use Rattle.ir_core.specs.Memory.{any_unset}
use Rattle.ir_memory.proofs.cells.has_unset.Given as goal

abbrev pub invariant-loop-c : goal.invariant-loop-c
invariant-loop-c l = any_unset (drop l.c-index l.cells) ≡ any_unset l.cells
