use Rattle.std.proofs.Common.{◌≡◌, drop}
use Rattle.obj_rows.specs.Marked.{all_unlinked}
use Rattle.rt_routines.specs.Writing.{with_row}
use Rattle.rt_routines.proofs.code.Code.put_row.Given as goal

abbrev pub invariant-loop-instr : goal.invariant-loop-instr
invariant-loop-instr l = with_row (all_unlinked (drop l.instr-index l.row)) l.self ≡ with_row (all_unlinked l.row) l.fn.self
