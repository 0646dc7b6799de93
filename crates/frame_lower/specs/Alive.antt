-- What homes are asked for: each word that is still needed stays in its home.
use Rattle.std.specs.Prelude.{◌≡◌, ◌≢◌, ℕ, ◌+◌, slice_get, Some, None}
use Rattle.low_core.specs.declared.sel.SelBlock.{SelBlock}
use Rattle.low_core.specs.declared.sel.SelFun.{SelFun}
use Rattle.low_core.specs.declared.sel.SelOp.{SelOp}
use Rattle.low_core.specs.SelParts.{IsOneOf, end_reads, leads_to}
use Rattle.frame_rows.specs.declared.spot.Spot.{Spot}
use Rattle.frame_rows.specs.Steps.{IsAllocated}
use Rattle.frame_rows.specs.Ties.{Differ}

-- a function with homes for its registers, and what lives before each operation and end, by block and number
pub record Allotted (f : SelFun) (homes : ℕ → Spot) (live : ℕ → ℕ → ℕ → Type 0) : Type 0 where
  -- an operation reads what lives; what lives behind it lives before it or is assigned, and not in the home that is assigned
  pub ops : (k n : ℕ) (b : SelBlock) (op : SelOp) → slice_get f.blocks k ≡ Some b → slice_get b.ops n ≡ Some op → IsAllocated homes (live k n) (live k (n + 1)) op
  -- an end reads what lives
  pub end_reads : (k n x : ℕ) (b : SelBlock) → slice_get f.blocks k ≡ Some b → slice_get b.ops n ≡ None → IsOneOf x (end_reads b.end) → live k n x
  -- what lives at the start of a block lives at the ends that lead there
  pub edges : (k n d x : ℕ) (b : SelBlock) → slice_get f.blocks k ≡ Some b → slice_get b.ops n ≡ None → IsOneOf d (leads_to b.end) → live d 0 x → live k n x
  -- parameters have homes of their own
  pub params : (x y : ℕ) → IsOneOf x f.params → IsOneOf y f.params → x ≢ y → Differ (homes x) (homes y)
