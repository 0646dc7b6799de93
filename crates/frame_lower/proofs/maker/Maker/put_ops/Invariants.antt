use Rattle.std.proofs.Common.{◌≡◌, ◌+◌, drop}
use Rattle.frame_lower.specs.Blocks.{calls_in, ops_row}
use Rattle.frame_lower.specs.Making.{making}
use Rattle.frame_lower.specs.Writing.{with_row}
use Rattle.frame_lower.proofs.maker.Maker.put_ops.Given as goal

abbrev pub invariant-loop-op : goal.invariant-loop-op
invariant-loop-op l =
    (with_row (ops_row (making l.fn.self) l.slot (drop l.op-index l.ops)) l.code ≡ with_row (ops_row (making l.fn.self) l.fn.first l.ops) l.fn.code)
    × (l.slot + calls_in (drop l.op-index l.ops) ≡ l.fn.first + calls_in l.ops)
