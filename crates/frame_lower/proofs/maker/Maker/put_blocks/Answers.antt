use Rattle.std.proofs.Common.{◌≡◌, ◌+◌, ◌∷◌, length, drop, ap, sym, ◌∙◌, arith}
use Rattle.std.specs.List.{sum_by}
use Rattle.std.proofs.lemmas.List.{drop_more}
use Rattle.low_core.specs.SelWeights.{sel_block_weight}
use Rattle.frame_lower.specs.declared.code.Code.{Code}
use Rattle.frame_lower.specs.Blocks.{block_row, blocks_row, block_bytes, calls_in, calls_of_blocks, start_in}
use Rattle.frame_lower.specs.Making.{making}
use Rattle.frame_lower.specs.Writing.{with_row}
use Rattle.frame_lower.proofs.Sizes.{block_light}
use Rattle.frame_lower.proofs.Loops.{weight_more, blocks_calls_more, block_grows, blocks_more}
use Rattle.frame_lower.proofs.maker.Maker.put_blocks.Goals as goal

pub put_block-requires-clause-slots : goal.put_block-requires-clause-slots
put_block-requires-clause-slots c =
    let blocks = c.args.blocks.now in
    let i = c.loop-block.block-index in
    let b = c.block-item.result in
    let rest = drop (i + 1) blocks in
    let split : drop i blocks ≡ b ∷ rest = drop_more blocks i b c.loop-block-test.true ∙ ap (λ x. x ∷ rest) (sym c.block-item.is) in
    let more : calls_of_blocks (drop i blocks) ≡ calls_in b.ops + calls_of_blocks rest = ap calls_of_blocks split ∙ blocks_calls_more b rest in
    let before : c.loop-block.slot + calls_of_blocks (drop i blocks) ≡ c.args.first + calls_of_blocks blocks = c.loop-block.invariant.1.1 in
    let n = c.requires.slots in
    omega arith

pub put_block-requires-clause-near : goal.put_block-requires-clause-near
put_block-requires-clause-near c =
    let blocks = c.args.blocks.now in
    let i = c.loop-block.block-index in
    let b = c.block-item.result in
    let rest = drop (i + 1) blocks in
    let split : drop i blocks ≡ b ∷ rest = drop_more blocks i b c.loop-block-test.true ∙ ap (λ x. x ∷ rest) (sym c.block-item.is) in
    let more : sum_by sel_block_weight (drop i blocks) ≡ sel_block_weight b + sum_by sel_block_weight rest = ap (sum_by sel_block_weight) split ∙ weight_more b rest in
    let before = c.loop-block.invariant.1.0 in
    let n = c.requires.near in
    omega arith

pub loop-block-preserved : goal.loop-block-preserved
loop-block-preserved c =
    let by = making c.args.self.now in
    let starts = start_in c.args.starts.now in
    let blocks = c.args.blocks.now in
    let i = c.loop-block.block-index in
    let b = c.block-item.result in
    let slot = c.loop-block.slot in
    let rest = drop (i + 1) blocks in
    let old : Code = c.loop-block.code in
    let new : Code = c.put_block.new.code in
    let split : drop i blocks ≡ b ∷ rest = drop_more blocks i b c.loop-block-test.true ∙ ap (λ x. x ∷ rest) (sym c.block-item.is) in
    let calls : calls_of_blocks (drop i blocks) ≡ calls_in b.ops + calls_of_blocks rest = ap calls_of_blocks split ∙ blocks_calls_more b rest in
    let weighs : sum_by sel_block_weight (drop i blocks) ≡ sel_block_weight b + sum_by sel_block_weight rest = ap (sum_by sel_block_weight) split ∙ weight_more b rest in
    let next : c.in_ok-slot.slot ≡ slot + calls_in b.ops = c.in_ok-slot.ensures.next in
    let written : new ≡ with_row (block_row by starts (length old.bytes) slot b) old = c.in_ok-slot.ensures.code in
    let grows : length new.bytes ≡ length old.bytes + block_bytes by b = ap (λ (d : Code). length d.bytes) written ∙ block_grows by starts slot b old in
    let light = block_light by c.requires.fit.five b in
    let slots : slot + calls_of_blocks (drop i blocks) ≡ c.args.first + calls_of_blocks blocks = c.loop-block.invariant.1.1 in
    let room = c.loop-block.invariant.1.0 in (
      ap (λ n. with_row (blocks_row by starts (length new.bytes) n rest) new) next
          ∙ ap (λ (d : Code). with_row (blocks_row by starts (length d.bytes) (slot + calls_in b.ops) rest) d) written
          ∙ blocks_more by starts slot b rest old
          ∙ ap (λ xs. with_row (blocks_row by starts (length old.bytes) slot xs) old) (sym split)
          ∙ c.loop-block.invariant.0,
      (omega arith, omega arith),
    )
