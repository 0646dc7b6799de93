use Rattle.std.proofs.Common.{◌≡◌, ◌+◌, ◌*◌, drop}
use Rattle.obj_rows.specs.Marked.{all_unlinked}
use Rattle.frame_lower.specs.Calls as rows
use Rattle.frame_lower.specs.Frames.{kept_bytes}
use Rattle.frame_lower.specs.Making.{making}
use Rattle.frame_lower.specs.Writing.{with_row}
use Rattle.frame_lower.proofs.maker.Maker.put_from_words.Given as goal

abbrev pub invariant-loop-k : goal.invariant-loop-k
invariant-loop-k l =
    with_row (all_unlinked (rows.from_words (making l.fn.self).homes ((l.fn.self.room + kept_bytes) + 8 * l.k) (drop l.k l.params))) l.code
    ≡ with_row (all_unlinked (rows.from_words (making l.fn.self).homes (l.fn.self.room + kept_bytes) l.params)) l.fn.code
