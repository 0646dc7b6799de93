use Rattle.std.proofs.Common.{◌≡◌, ◌<◌, ◌^◌, length, ap, sym, subst, ◌∙◌, arith}
use Rattle.std.specs.List.{sum_by}
use Rattle.low_core.specs.SelWeights.{sel_block_weight}
use Rattle.frame_lower.specs.declared.code.Code.{Code}
use Rattle.frame_lower.specs.Blocks.{blocks_row, starts_from, start_in}
use Rattle.frame_lower.specs.Functions.{front_row}
use Rattle.frame_lower.specs.Making.{making}
use Rattle.frame_lower.specs.Writing.{empty_code, with_row}
use Rattle.frame_lower.proofs.Functions.{front_long, function_joined, starts_below}
use Rattle.frame_lower.proofs.Sizes.{front_light}
use Rattle.frame_lower.proofs.maker.Maker.whole_code.Goals as goal

pub starts-requires-clause-near : goal.starts-requires-clause-near
starts-requires-clause-near c =
    let by = making c.args.self.now in
    let f = c.args.function.now in
    let code : c.put_front.new.code ≡ with_row (front_row by f) empty_code = c.in_ok-put_front.ensures ∙ ap (with_row (front_row by f)) c.new-code.ensures in
    let long : length c.put_front.new.code.bytes ≡ _ = ap (λ (d : Code). length d.bytes) code ∙ front_long (front_row by f) in
    let few = front_light by c.requires.fit.five f c.requires.params in
    let light = c.requires.light in
    let l = c.len.ensures in
    let b : sum_by sel_block_weight c.as_slice-blocks.result.now ≡ sum_by sel_block_weight f.blocks = ap (sum_by sel_block_weight) c.as_slice-blocks.ensures in
    omega arith

pub put_blocks-requires-clause-near : goal.put_blocks-requires-clause-near
put_blocks-requires-clause-near c =
    let by = making c.args.self.now in
    let f = c.args.function.now in
    let code : c.put_front.new.code ≡ with_row (front_row by f) empty_code = c.in_ok-put_front.ensures ∙ ap (with_row (front_row by f)) c.new-code.ensures in
    let long : length c.put_front.new.code.bytes ≡ _ = ap (λ (d : Code). length d.bytes) code ∙ front_long (front_row by f) in
    let few = front_light by c.requires.fit.five f c.requires.params in
    let light = c.requires.light in
    let b : sum_by sel_block_weight c.as_slice-blocks.result.now ≡ sum_by sel_block_weight f.blocks = ap (sum_by sel_block_weight) c.as_slice-blocks.ensures in
    omega arith

pub put_blocks-requires-clause-starts : goal.put_blocks-requires-clause-starts
put_blocks-requires-clause-starts c n =
    let by = making c.args.self.now in
    let f = c.args.function.now in
    let code : c.put_front.new.code ≡ with_row (front_row by f) empty_code = c.in_ok-put_front.ensures ∙ ap (with_row (front_row by f)) c.new-code.ensures in
    let long : length c.put_front.new.code.bytes ≡ _ = ap (λ (d : Code). length d.bytes) code ∙ front_long (front_row by f) in
    let few = front_light by c.requires.fit.five f c.requires.params in
    let light = c.requires.light in
    let l = c.len.ensures in
    let b : sum_by sel_block_weight c.as_slice-blocks.result.now ≡ sum_by sel_block_weight f.blocks = ap (sum_by sel_block_weight) c.as_slice-blocks.ensures in
    subst (λ xs. start_in xs n < 2 ^ 30) (sym (c.as_slice.ensures ∙ c.in_ok-starts.ensures))
    (starts_below by (2 ^ 30) c.len.result c.as_slice-blocks.result.now c.requires.fit.five (omega arith) (omega arith) n)

pub returns : goal.returns
returns c =
    let by = making c.args.self.now in
    let f = c.args.function.now in
    let first = c.args.first in
    let front = with_row (front_row by f) empty_code in
    let code : c.put_front.new.code ≡ front = c.in_ok-put_front.ensures ∙ ap (with_row (front_row by f)) c.new-code.ensures in
    let starts : c.as_slice.result.now ≡ starts_from by (length c.put_front.new.code.bytes) f.blocks =
    c.as_slice.ensures ∙ c.in_ok-starts.ensures ∙ ap (λ n. starts_from by n c.as_slice-blocks.result.now) c.len.ensures ∙ ap (starts_from by (length c.put_front.new.code.bytes)) c.as_slice-blocks.ensures in
    c.in_ok-put_blocks.ensures
    ∙ ap (λ ss. with_row (blocks_row by (start_in ss) (length c.put_front.new.code.bytes) first c.as_slice-blocks.result.now) c.put_front.new.code) starts
    ∙ ap (λ bs. with_row (blocks_row by (start_in (starts_from by (length c.put_front.new.code.bytes) f.blocks)) (length c.put_front.new.code.bytes) first bs) c.put_front.new.code) c.as_slice-blocks.ensures
    ∙ ap (λ (d : Code). with_row (blocks_row by (start_in (starts_from by (length d.bytes) f.blocks)) (length d.bytes) first f.blocks) d) code
    ∙ function_joined by first f
