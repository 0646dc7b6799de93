use Rattle.std.proofs.Common.{◌≡◌, ◌+◌, [], ◌∷◌, ◌++◌, drop, ap, sym, ◌∙◌, arith}
use Rattle.std.specs.List.{sum_by}
use Rattle.std.proofs.lemmas.List.{drop_more, append_assoc}
use Rattle.low_core.specs.SelWeights.{sel_block_weight}
use Rattle.frame_lower.specs.Blocks.{block_bytes, starts_from}
use Rattle.frame_lower.specs.Making.{making}
use Rattle.frame_lower.proofs.Sizes.{block_light}
use Rattle.frame_lower.proofs.Loops.{weight_more}
use Rattle.frame_lower.proofs.maker.Maker.starts.Goals as goal

pub block_bytes-requires-clause-near : goal.block_bytes-requires-clause-near
block_bytes-requires-clause-near c =
    let blocks = c.args.blocks.now in
    let i = c.loop-block.block-index in
    let b = c.block-item.result in
    let rest = drop (i + 1) blocks in
    let split : drop i blocks ≡ b ∷ rest = drop_more blocks i b c.loop-block-test.true ∙ ap (λ x. x ∷ rest) (sym c.block-item.is) in
    let weighs : sum_by sel_block_weight (drop i blocks) ≡ sel_block_weight b + sum_by sel_block_weight rest = ap (sum_by sel_block_weight) split ∙ weight_more b rest in
    let room = c.loop-block.invariant.1 in
    let n = c.requires.near in
    omega arith

pub overflow_add-at : goal.overflow_add-at
overflow_add-at c =
    let by = making c.args.self.now in
    let blocks = c.args.blocks.now in
    let i = c.loop-block.block-index in
    let b = c.block-item.result in
    let rest = drop (i + 1) blocks in
    let split : drop i blocks ≡ b ∷ rest = drop_more blocks i b c.loop-block-test.true ∙ ap (λ x. x ∷ rest) (sym c.block-item.is) in
    let weighs : sum_by sel_block_weight (drop i blocks) ≡ sel_block_weight b + sum_by sel_block_weight rest = ap (sum_by sel_block_weight) split ∙ weight_more b rest in
    let room = c.loop-block.invariant.1 in
    let light = block_light by c.requires.fit.five b in
    let size : c.in_ok-at.field-0 ≡ block_bytes by b = c.in_ok-at.ensures in
    let n = c.requires.near in
    omega arith

pub loop-block-preserved : goal.loop-block-preserved
loop-block-preserved c =
    let by = making c.args.self.now in
    let blocks = c.args.blocks.now in
    let i = c.loop-block.block-index in
    let at = c.loop-block.at in
    let b = c.block-item.result in
    let rest = drop (i + 1) blocks in
    let split : drop i blocks ≡ b ∷ rest = drop_more blocks i b c.loop-block-test.true ∙ ap (λ x. x ∷ rest) (sym c.block-item.is) in
    let weighs : sum_by sel_block_weight (drop i blocks) ≡ sel_block_weight b + sum_by sel_block_weight rest = ap (sum_by sel_block_weight) split ∙ weight_more b rest in
    let room = c.loop-block.invariant.1 in
    let light = block_light by c.requires.fit.five b in
    let size : c.in_ok-at.field-0 ≡ block_bytes by b = c.in_ok-at.ensures in (
      ap (λ n. c.add.new.self ++ starts_from by (at + n) rest) size
          ∙ ap (λ xs. xs ++ starts_from by (at + block_bytes by b) rest) c.in_ok-add.ensures.put
          ∙ append_assoc c.loop-block.all (at ∷ []) (starts_from by (at + block_bytes by b) rest)
          ∙ ap (λ xs. c.loop-block.all ++ starts_from by at xs) (sym split)
          ∙ c.loop-block.invariant.0,
      omega arith,
    )
