use Rattle.std.proofs.Common.{◌≡◌, ◌++◌, drop}
use Rattle.frame_rows.proofs.op.put_row.Given as goal

abbrev pub invariant-loop-i : goal.invariant-loop-i
invariant-loop-i l = l.all ++ drop l.i-index l.row ≡ l.fn.all ++ l.row
