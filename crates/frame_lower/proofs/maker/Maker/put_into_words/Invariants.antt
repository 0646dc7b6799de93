use Rattle.std.proofs.Common.{◌≡◌, drop}
use Rattle.obj_rows.specs.Marked.{all_unlinked}
use Rattle.frame_lower.specs.Calls as rows
use Rattle.frame_lower.specs.Making.{making}
use Rattle.frame_lower.specs.Writing.{with_row}
use Rattle.frame_lower.proofs.maker.Maker.put_into_words.Given as goal

abbrev pub invariant-loop-k : goal.invariant-loop-k
invariant-loop-k l =
    with_row (all_unlinked (rows.into_words (making l.fn.self).homes l.k (drop l.k l.args))) l.code
    ≡ with_row (all_unlinked (rows.into_words (making l.fn.self).homes 0 l.args)) l.fn.code
