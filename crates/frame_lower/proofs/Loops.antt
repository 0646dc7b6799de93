-- One more block of a row of blocks.
use Rattle.std.proofs.Common.{◌≡◌, ℕ, ◌+◌, List, ◌∷◌, length, ap, sym, ◌∙◌}
use Rattle.std.specs.List.{sum_by}
use Rattle.std.proofs.lemmas.List.Sums.{sum_by-cons}
use Rattle.low_core.specs.declared.sel.SelBlock.{SelBlock}
use Rattle.low_core.specs.SelWeights.{sel_block_weight}
use Rattle.frame_lower.specs.declared.code.Code.{Code}
use Rattle.frame_lower.specs.Rows.{Making}
use Rattle.frame_lower.specs.Blocks.{block_row, block_bytes, blocks_row, calls_in, calls_of_blocks}
use Rattle.frame_lower.specs.Writing.{with_row}
use Rattle.frame_lower.proofs.Long.{row_long}
use Rattle.frame_lower.proofs.Sizes.{block_same}
use Rattle.frame_lower.proofs.Writing.{row_joined}

pub weight_more : (b : SelBlock) (bs : List SelBlock) → sum_by sel_block_weight (b ∷ bs) ≡ sel_block_weight b + sum_by sel_block_weight bs
weight_more b bs = sum_by-cons sel_block_weight b bs

pub blocks_calls_more : (b : SelBlock) (bs : List SelBlock) → calls_of_blocks (b ∷ bs) ≡ calls_in b.ops + calls_of_blocks bs
blocks_calls_more b bs = sum_by-cons (λ (x : SelBlock). calls_in x.ops) b bs

module _ (by : Making) (starts : ℕ → ℕ) where
  -- the code grows by the block's bytes
  pub block_grows : (slot : ℕ) (b : SelBlock) (c : Code) → length (with_row (block_row by starts (length c.bytes) slot b) c).bytes ≡ length c.bytes + block_bytes by b
  block_grows slot b c = row_long (block_row by starts (length c.bytes) slot b) c ∙ ap (λ n. length c.bytes + n) (block_same by starts (length c.bytes) slot b)

  pub blocks_more : (slot : ℕ) (b : SelBlock) (bs : List SelBlock) (c : Code) →
      let d = with_row (block_row by starts (length c.bytes) slot b) c in
      with_row (blocks_row by starts (length d.bytes) (slot + calls_in b.ops) bs) d ≡ with_row (blocks_row by starts (length c.bytes) slot (b ∷ bs)) c
  blocks_more slot b bs c =
      let row = block_row by starts (length c.bytes) slot b in
      let d = with_row row c in
      ap (λ n. with_row (blocks_row by starts n (slot + calls_in b.ops) bs) d) (block_grows slot b c)
      ∙ sym (row_joined row (blocks_row by starts (length c.bytes + block_bytes by b) (slot + calls_in b.ops) bs) c)
