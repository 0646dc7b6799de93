use Rattle.std.proofs.Common.{◌≡◌, ◌-◌, drop, length}
use Rattle.obj_rows.specs.Marked.{all_unlinked}
use Rattle.frame_lower.specs.Rows.{pop_row}
use Rattle.frame_lower.specs.Writing.{with_row}
use Rattle.frame_lower.proofs.maker.Maker.put_pops.Given as goal

abbrev pub invariant-loop-k : goal.invariant-loop-k
invariant-loop-k l =
    l.code ≡ with_row (all_unlinked (pop_row (drop (length l.fn.self.order.now - l.k) l.fn.self.order.now))) l.fn.code
