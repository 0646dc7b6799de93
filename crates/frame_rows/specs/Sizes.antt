-- How long rows are, and which instructions there are.
use Rattle.std.specs.Prelude.{ℕ, ◌+◌, ◌≤◌, List, [], ◌∷◌, length}
use Rattle.x86_core.specs.declared.instr.Instr.{Instr}
use Rattle.x86_core.specs.Encoding.{encoding, IsInstr}
use Rattle.low_core.specs.declared.sel.SelOp.{SelOp}
use Rattle.low_core.specs.declared.sel.SelOp.TheVariants.{Call, CallAt, Outside}

-- how many bytes a row has
abbrev pub row_bytes : List Instr → ℕ
row_bytes [] = 0
row_bytes (i ∷ row) = length (encoding i) + row_bytes row

-- constants and displacements are in range everywhere in a row
abbrev pub AreInstrs : List Instr → Type 0
AreInstrs [] = Unit {0}
AreInstrs (i ∷ row) = IsInstr i × AreInstrs row

-- a row of so many instructions at most, and of so many bytes at most, with one instruction at least
pub record IsSized (row : List Instr) (instructions bytes : ℕ) : Type 0 where
  pub some : 1 ≤ length row
  pub count : length row ≤ instructions
  pub long : row_bytes row ≤ bytes
  pub some_bytes : 1 ≤ row_bytes row

-- the operations that have rows
abbrev pub IsNoCall : SelOp → Type 0
IsNoCall (Call g r args) = ⊥
IsNoCall (CallAt s r args) = ⊥
IsNoCall (Outside which r args) = ⊥
IsNoCall other = Unit {0}
