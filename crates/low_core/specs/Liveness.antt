-- Where in a function a register's word is still needed. Positions are numbered in the order in which the function is
-- written: 0 is its entry, where the parameters are assigned; then each operation and each end has one.
use Rattle.std.specs.Prelude.{◌≡◌, ℕ, suc, ◌≤◌, ◌⊎◌, List, [], ◌∷◌, ◌++◌, length, map, slice_get, take, Some}
use Rattle.std.specs.List.{flat_map, sum_by}
use Rattle.low_core.specs.declared.sel.SelOp.{SelOp}
use Rattle.low_core.specs.declared.sel.SelEnd.{SelEnd}
use Rattle.low_core.specs.declared.sel.SelBlock.{SelBlock}
use Rattle.low_core.specs.declared.sel.SelFun.{SelFun}
use Rattle.low_core.specs.SelParts.{reads_of, assigns_of, end_reads, leads_to, IsOneOf}

-- what stands at a position
pub data Point : Type 0 where
  Entry : Point
  Does : (op : SelOp) → Point
  Ends : (end : SelEnd) → Point

-- the points of a function in their order
abbrev pub block_points : SelBlock → List Point
block_points b = map Does b.ops ++ Ends b.end ∷ []

abbrev pub points_of : SelFun → List Point
points_of f = Entry ∷ flat_map block_points f.blocks

-- the position at which a block begins
abbrev pub start_of : SelFun → ℕ → ℕ
start_of f b = suc (sum_by (λ (c : SelBlock). suc (length c.ops)) (take b f.blocks))

-- a point reads or assigns a register
abbrev pub Reads : Point → ℕ → Type 0
Reads Entry r = ⊥
Reads (Does op) r = IsOneOf r (reads_of op)
Reads (Ends end) r = IsOneOf r (end_reads end)

abbrev pub Assigns : List ℕ → Point → ℕ → Type 0
Assigns params Entry r = IsOneOf r params
Assigns params (Does op) r = assigns_of op ≡ Some r
Assigns params (Ends end) r = ⊥

-- a position that may come after a point at another one
abbrev pub Follows : SelFun → Point → ℕ → ℕ → Type 0
Follows f Entry p q = q ≡ suc p
Follows f (Does op) p q = q ≡ suc p
Follows f (Ends end) p q = (b : ℕ) × (IsOneOf b (leads_to end) × (q ≡ start_of f b))

-- before the point at a position the register's word is still needed: it is read there, or on a way from there on which nothing
-- assigns it before
pub data Needed (f : SelFun) (r : ℕ) : ℕ → Type 0 where
  Here : (p : ℕ) (x : Point) → slice_get (points_of f) p ≡ Some x → Reads x r → Needed f r p
  Later : (p q : ℕ) (x : Point) → slice_get (points_of f) p ≡ Some x → (Assigns f.params x r → ⊥) → Follows f x p q → Needed f r q → Needed f r p

-- a position at which a register is assigned, read or still needed
abbrev pub Touches : SelFun → ℕ → ℕ → Type 0
Touches f r p = ((x : Point) × ((slice_get (points_of f) p ≡ Some x) × Assigns f.params x r)) ⊎ Needed f r p

-- its range: all positions from the least to the greatest of these
pub record InRange (f : SelFun) (r p : ℕ) : Type 0 where
  pub low : ℕ
  pub high : ℕ
  pub touches_low : Touches f r low
  pub touches_high : Touches f r high
  pub from_low : low ≤ p
  pub to_high : p ≤ high
