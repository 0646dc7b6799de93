-- Blocks one after another, each at the offset where the one before it ends.
use Rattle.std.specs.Prelude.{ℕ, ◌+◌, List, [], ◌∷◌, ◌++◌, get_or}
use Rattle.std.specs.List.{sum_by}
use Rattle.low_core.specs.declared.sel.SelOp.{SelOp}
use Rattle.low_core.specs.declared.sel.SelBlock.{SelBlock}
use Rattle.low_core.specs.SelWeights.{calls_at}
use Rattle.obj_rows.specs.Marked.{Marked, row_size}
use Rattle.frame_lower.specs.Rows.{Making, marked_op, end_row}

-- the calls among operations
abbrev pub calls_in : List SelOp → ℕ
calls_in ops = sum_by calls_at ops

-- operations; the calls among them go by the slots from one on
abbrev pub ops_row : Making → ℕ → List SelOp → List Marked
ops_row by slot [] = []
ops_row by slot (op ∷ ops) = marked_op by slot op ++ ops_row by (slot + calls_at op) ops

-- a block at an offset
abbrev pub block_row : Making → (ℕ → ℕ) → ℕ → ℕ → SelBlock → List Marked
block_row by starts at slot b =
    let ops = ops_row by slot b.ops in
    ops ++ end_row by starts (at + row_size ops) b.end

-- how many bytes it has, wherever it stands and wherever its branches lead
abbrev pub block_bytes : Making → SelBlock → ℕ
block_bytes by b = row_size (block_row by (λ n. 0) 0 0 b)

-- where blocks start, the first of them at an offset
abbrev pub starts_from : Making → ℕ → List SelBlock → List ℕ
starts_from by at [] = []
starts_from by at (b ∷ bs) = at ∷ starts_from by (at + block_bytes by b) bs

-- the start of the block of a number; there is no block past the last one
abbrev pub start_in : List ℕ → ℕ → ℕ
start_in starts n = get_or starts n 0

-- the calls of blocks
abbrev pub calls_of_blocks : List SelBlock → ℕ
calls_of_blocks bs = sum_by (λ (b : SelBlock). calls_in b.ops) bs

-- all blocks from an offset on
abbrev pub blocks_row : Making → (ℕ → ℕ) → ℕ → ℕ → List SelBlock → List Marked
blocks_row by starts at slot [] = []
blocks_row by starts at slot (b ∷ bs) =
    block_row by starts at slot b ++ blocks_row by starts (at + block_bytes by b) (slot + calls_in b.ops) bs
