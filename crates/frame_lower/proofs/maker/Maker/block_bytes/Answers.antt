use Rattle.std.proofs.Common.{◌≡◌, ◌+◌, length, [], ap, ◌∙◌, arith}
use Rattle.frame_lower.specs.declared.code.Code.{Code}
use Rattle.frame_lower.specs.Blocks.{block_row, start_in}
use Rattle.frame_lower.specs.Making.{making}
use Rattle.obj_rows.specs.Marked.{row_size}
use Rattle.frame_lower.specs.Writing.{empty_code, with_row}
use Rattle.frame_lower.proofs.Long.{row_long}
use Rattle.frame_lower.proofs.Sizes.{block_same, calls_few}
use Rattle.frame_lower.proofs.maker.Maker.block_bytes.Goals as goal

pub returns : goal.returns
returns c =
    let by = making c.args.self.now in
    let b = c.args.block.now in
    let same = block_same by (start_in []) 0 0 b in
    let whole : 0 + row_size (block_row by (start_in []) 0 0 b) ≡ row_size (block_row by (start_in []) 0 0 b) = omega arith in
    c.len.ensures ∙ ap (λ (d : Code). length d.bytes) (c.in_ok-put_block.ensures.code ∙ ap (λ (d : Code). with_row (block_row by (start_in []) (length d.bytes) 0 b) d) c.new-code.ensures)
    ∙ row_long (block_row by (start_in []) 0 0 b) empty_code ∙ whole ∙ same

pub put_block-requires-clause-slots : goal.put_block-requires-clause-slots
put_block-requires-clause-slots c = let f = calls_few c.args.block.now.ops in let n = c.requires.near in omega arith

pub put_block-requires-clause-near : goal.put_block-requires-clause-near
put_block-requires-clause-near c =
    let n = c.requires.near in
    let z : length c.new-code.result.bytes ≡ 0 = ap (λ (d : Code). length d.bytes) c.new-code.ensures in
    omega arith
