-- Where the blocks of a function begin, and what stands there.
use Rattle.std.proofs.Common.{◌≡◌, ℕ, zero, suc, ◌+◌, List, [], ◌∷◌, ◌++◌, take, Some, refl, sym, ◌∙◌, ap, arith, append_assoc}
use Rattle.std.specs.Prelude.{slice_get}
use Rattle.std.proofs.lemmas.List.{append-nil}
use Rattle.low_core.specs.declared.sel.SelBlock.{SelBlock}
use Rattle.low_core.specs.declared.sel.Sel.{Sel}
use Rattle.obj_rows.specs.Marked.{Marked, row_size, Stands}
use Rattle.obj_rows.proofs.Rows.{row_size-append}
use Rattle.frame_lower.specs.Blocks.{calls_in, calls_of_blocks, block_row, block_bytes, blocks_row, starts_from, start_in}
use Rattle.frame_lower.specs.Chain.{function_in, first_slot, slot_behind, code_in, starts_in, rest_in}
use Rattle.frame_lower.specs.Functions.{front_row}
use Rattle.frame_lower.specs.Rows.{Making}
use Rattle.frame_lower.proofs.Loops.{blocks_calls_more}
use Rattle.frame_lower.proofs.Sizes.{block_same}

-- a block among the others
record Among (by : Making) (starts : ℕ → ℕ) (at slot : ℕ) (bs : List SelBlock) (k : ℕ) (b : SelBlock) : Type 0 where
  before : List Marked
  behind : List Marked
  split : blocks_row by starts at slot bs ≡ before ++ (block_row by starts (start_in (starts_from by at bs) k) (slot + calls_of_blocks (take k bs)) b ++ behind)
  long : at + row_size before ≡ start_in (starts_from by at bs) k

among : (by : Making) (starts : ℕ → ℕ) (at slot : ℕ) (bs : List SelBlock) (k : ℕ) (b : SelBlock) → slice_get bs k ≡ Some b → Among by starts at slot bs k b
among by starts at slot [] k b there = absurd (cc)
among by starts at slot (c ∷ bs) zero b there =
    let same : c ≡ b = cc in
    let none : slot ≡ slot + calls_of_blocks [] = omega arith in
    let others = blocks_row by starts (at + block_bytes by c) (slot + calls_in c.ops) bs in
    record {
      before = [];
      behind = others;
      split = ap (λ d. block_row by starts at slot d ++ others) same ∙ ap (λ s. block_row by starts at s b ++ others) none;
      long = omega arith;
    }
among by starts at slot (c ∷ bs) (suc k) b there =
    let y = among by starts (at + block_bytes by c) (slot + calls_in c.ops) bs k b there in
    let first = block_row by starts at slot c in
    let more : slot + calls_in c.ops + calls_of_blocks (take k bs) ≡ slot + calls_of_blocks (c ∷ take k bs) = let e = blocks_calls_more c (take k bs) in omega (arith, e) in
    let place = start_in (starts_from by (at + block_bytes by c) bs) k in
    record {
      before = first ++ y.before;
      behind = y.behind;
      split = ap (λ r. first ++ r) (y.split ∙ ap (λ s. y.before ++ (block_row by starts place s b ++ y.behind)) more) ∙ sym (append_assoc first y.before (block_row by starts place (slot + calls_of_blocks (c ∷ take k bs)) b ++ y.behind));
      long = let l = y.long in omega (arith, l, row_size-append first y.before, block_same by starts at slot c);
    }

module _ (sel : Sel) (by : ℕ → Making) (g : ℕ) where
  abbrev blocks : List SelBlock
  blocks = (function_in sel g).blocks

  abbrev front : List Marked
  front = front_row (by g) (function_in sel g)

  -- each block stands where it begins
  pub block_stands : (k : ℕ) (b : SelBlock) → slice_get blocks k ≡ Some b → Stands (code_in sel by g) (starts_in sel by g k) (rest_in sel by g (starts_in sel by g k) k 0 b)
  block_stands k b there =
      let y = among (by g) (starts_in sel by g) (row_size front) (first_slot sel g) blocks k b there in
      let none : first_slot sel g + calls_of_blocks (take k blocks) ≡ slot_behind sel g k [] = omega arith in
      let row = rest_in sel by g (starts_in sel by g k) k 0 b in
      record {
        before = front ++ y.before;
        behind = y.behind;
        split = ap (λ r. front ++ r) (y.split ∙ ap (λ s. y.before ++ (block_row (by g) (starts_in sel by g) (starts_in sel by g k) s b ++ y.behind)) none) ∙ sym (append_assoc front y.before (row ++ y.behind));
        offset = sym y.long ∙ sym (row_size-append front y.before);
      }

  -- the front stands at the start, and the first block behind it
  pub front_stands : Stands (code_in sel by g) 0 (front ++ blocks_row (by g) (starts_in sel by g) (row_size front) (first_slot sel g) blocks)
  front_stands = record { before = []; behind = []; split = sym (append-nil (code_in sel by g)); offset = refl }

  pub first_starts : (b : SelBlock) → slice_get blocks 0 ≡ Some b → starts_in sel by g 0 ≡ row_size front
  first_starts b there = by_list blocks there
    where
      by_list : (bs : List SelBlock) → slice_get bs 0 ≡ Some b → start_in (starts_from (by g) (row_size front) bs) 0 ≡ row_size front
      by_list [] none = absurd (cc)
      by_list (c ∷ bs) some = refl
