-- How displacements are put into a segment of code whose places count through the bytes of all functions.
use Rattle.std.specs.Prelude.{◌≡◌, ℕ, ◌+◌, ◌<◌, ◌≤◌, List, [], ◌∷◌, length, drop, Option, Some, None}
use Rattle.x86_core.specs.declared.instr.Instr.{Instr}
use Rattle.x86_core.specs.declared.instr.Decoded.TheVariants.{One}
use Rattle.x86_core.specs.Decoding.{decode}
use Rattle.obj_core.specs.declared.run.Run.{Run}
use Rattle.obj_core.specs.Disassembly.{size_of}
use Rattle.obj_core.specs.Placement.{displacement_bytes}
use Rattle.obj_core.specs.Runs.{address_at, put_at}
use Rattle.obj_core.specs.Layout.{Way}
use Rattle.obj_lay.specs.declared.instr_at.InstrAt.{InstrAt}

-- bytes with the displacements of a function whose bytes begin at a place
abbrev pub put_ways : List Run → ℕ → ℕ → List Way → List ℕ → List ℕ
put_ways runs start front [] all = all
put_ways runs start front (w ∷ ws) all = put_ways runs start front ws (put_at runs start all (front + w.at) (displacement_bytes w.to (address_at runs (front + w.at + 3) + 1)))

-- an instruction was decoded at its offset
pub record IsDecoded (bytes : List ℕ) (at : ℕ) (x : InstrAt) : Type 0 where
  pub here : x.at ≡ at
  pub some : x.at < x.end
  pub inside : x.end ≤ length bytes
  pub whole : x.end ≡ x.at + size_of x.instr
  pub decoded : decode (drop at bytes) ≡ One x.instr (size_of x.instr)

-- the instruction at an offset, if there is one
abbrev pub IsNext : List ℕ → ℕ → Option InstrAt → Type 0
IsNext bytes at None = (i : Instr) (size : ℕ) → decode (drop at bytes) ≡ One i size → ⊥
IsNext bytes at (Some x) = IsDecoded bytes at x
