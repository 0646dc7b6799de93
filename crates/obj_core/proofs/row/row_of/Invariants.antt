use Rattle.std.proofs.Common.{◌≡◌, ◌++◌, ◌+◌, ◌*◌, ◌≤◌, drop}
use Rattle.std.specs.List.{sum_by}
use Rattle.rd_draw.specs.Draw.{stream_key, keystream_word}
use Rattle.obj_core.specs.Placement.{gap_purpose, pieces_in, starts_from, code_base}
use Rattle.obj_core.specs.Pieces.{piece_len}
use Rattle.obj_core.specs.Plans.{end_from}
use Rattle.obj_core.proofs.row.row_of.Given as goal

-- what is known so far, with what the pieces that are left give, is the whole
abbrev pub invariant-loop-number : goal.invariant-loop-number
invariant-loop-number l =
    let words = keystream_word l.seed gap_purpose 0 in
    let left = pieces_in l.pieces (drop l.number-index l.order) in
    let all = pieces_in l.pieces l.order in
    record {
      base : l.base ≡ code_base l.seed;
      ahead : l.base ≤ l.end;
      key : l.draw.key ≡ stream_key l.seed gap_purpose 0;
      place : l.draw.place ≡ l.number-index + 1;
      near : l.end + sum_by piece_len left ≤ 1409282048 + 511 * l.number-index;
      starts : l.starts ++ starts_from words (l.number-index + 1) l.end left ≡ starts_from words 1 (code_base l.seed) all;
      end : end_from words (l.number-index + 1) l.end left ≡ end_from words 1 (code_base l.seed) all;
    }
