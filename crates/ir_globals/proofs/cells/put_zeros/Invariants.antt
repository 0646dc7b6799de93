-- the zeros so far
use Rattle.std.proofs.Common.{◌≡◌, ◌++◌}
use Rattle.ir_core.specs.Globals.{zeros}
use Rattle.ir_globals.proofs.cells.put_zeros.Given as goal

abbrev pub invariant-loop-one : goal.invariant-loop-one
invariant-loop-one l = l.cells.items ≡ l.fn.cells.items ++ zeros l._one
