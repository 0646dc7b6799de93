use Rattle.std.proofs.Common.{◌≡◌, ◌+◌, length, ap, ◌∙◌, arith}
use Rattle.frame_rows.specs.Sizes.{row_bytes}
use Rattle.obj_rows.specs.Marked.{all_unlinked}
use Rattle.frame_lower.specs.declared.code.Code.{Code}
use Rattle.frame_lower.specs.Making.{making}
use Rattle.frame_lower.specs.Rows.{closing_row}
use Rattle.frame_lower.proofs.Long.{row_long}
use Rattle.frame_lower.proofs.Sizes.{unlinked_size}
use Rattle.frame_lower.proofs.maker.Maker.put_end.Goals as goal

pub put_branches-requires-clause-near : goal.put_branches-requires-clause-near
put_branches-requires-clause-near c =
    let row = closing_row (making c.args.self.now) c.args.end.now in
    let l : length c.put_closing.new.code.bytes ≡ length c.args.code.now.bytes + row_bytes row =
    ap (λ (d : Code). length d.bytes) c.in_ok-put_closing.ensures ∙ row_long (all_unlinked row) c.args.code.now ∙ ap (λ n. length c.args.code.now.bytes + n) (unlinked_size row) in
    let n = c.requires.near in
    omega arith
