use Rattle.std.proofs.Common.{◌≡◌, ◌+◌, length, ap, ◌∙◌, arith}
use Rattle.frame_lower.specs.declared.code.Code.{Code}
use Rattle.frame_lower.specs.Blocks.{ops_row}
use Rattle.frame_lower.specs.Making.{making}
use Rattle.frame_lower.specs.Writing.{with_row}
use Rattle.obj_rows.specs.Marked.{row_size}
use Rattle.frame_lower.proofs.Long.{row_long}
use Rattle.frame_lower.proofs.Sizes.{ops_light, closing_few}
use Rattle.frame_lower.proofs.maker.Maker.put_block.Goals as goal

pub put_end-requires-clause-near : goal.put_end-requires-clause-near
put_end-requires-clause-near c =
    let by = making c.args.self.now in
    let b = c.args.block.now in
    let row = ops_row by c.args.first b.ops in
    let l : length c.put_ops.new.code.bytes ≡ length c.args.code.now.bytes + row_size row =
    ap (λ (d : Code). length d.bytes) (c.in_ok-next.ensures.code ∙ ap (λ ops. with_row (ops_row by c.args.first ops) c.args.code.now) c.as_slice.ensures) ∙ row_long row c.args.code.now in
    let o = ops_light by c.args.first b.ops in
    let e = closing_few by c.requires.fit.five b.end in
    let n = c.requires.near in
    omega arith
