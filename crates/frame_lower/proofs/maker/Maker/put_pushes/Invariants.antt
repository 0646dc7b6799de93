use Rattle.std.proofs.Common.{◌≡◌, drop}
use Rattle.obj_rows.specs.Marked.{all_unlinked}
use Rattle.frame_lower.specs.Rows.{push_row}
use Rattle.frame_lower.specs.Writing.{with_row}
use Rattle.frame_lower.proofs.maker.Maker.put_pushes.Given as goal

abbrev pub invariant-loop-place : goal.invariant-loop-place
invariant-loop-place l =
    with_row (all_unlinked (push_row (drop l.place-index l.fn.self.order.now))) l.code ≡ with_row (all_unlinked (push_row l.fn.self.order.now)) l.fn.code
