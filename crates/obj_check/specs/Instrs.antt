-- An instruction at its place in a function's bytes.
use Rattle.std.specs.Prelude.{◌≡◌, ℕ, ◌+◌, ◌<◌, ◌≤◌, List, [], ◌∷◌, ◌++◌, length, drop, Option, Some, None}
use Rattle.x86_core.specs.declared.instr.Instr.{Instr}
use Rattle.x86_core.specs.Encoding.{encoding, IsInstr}
use Rattle.obj_core.specs.Disassembly.{size_of}
use Rattle.obj_check.specs.declared.instr_at.InstrAt.{InstrAt}

-- an instruction has bytes, and ends inside the function
pub record IsWhole (size : ℕ) (p : InstrAt) : Type 0 where
  pub end : p.end ≡ p.at + size_of p.instr
  pub some : p.at < p.end
  pub inside : p.end ≤ size

-- the instruction that stands at an offset, or that none does
pub record StandsAt (bytes : List ℕ) (at : ℕ) (p : InstrAt) : Type 0 where
  pub here : p.at ≡ at
  pub is_whole : IsWhole (length bytes) p
  pub is_instr : IsInstr p.instr
  pub bytes_are : drop at bytes ≡ encoding p.instr ++ drop p.end bytes

abbrev pub IsInstrAt : List ℕ → ℕ → Option InstrAt → Type 0
IsInstrAt bytes at None = (i : Instr) → IsInstr i → (more : List ℕ) → drop at bytes ≡ encoding i ++ more → ⊥
IsInstrAt bytes at (Some p) = StandsAt bytes at p
