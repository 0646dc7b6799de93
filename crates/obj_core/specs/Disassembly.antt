-- The disassembly of a function: the one list of instructions that its bytes are.
use Rattle.std.specs.Prelude.{◌≡◌, ℕ, zero, suc, ◌+◌, ◌-◌, Bool, false, ◌||◌, nat_eq, List, [], ◌∷◌, ◌++◌, length, drop}
use Rattle.x86_core.specs.declared.instr.Instr.{Instr}
use Rattle.x86_core.specs.declared.instr.Decoded.{Decoded}
use Rattle.x86_core.specs.declared.instr.Decoded.TheVariants.{One, Short, Unknown}
use Rattle.x86_core.specs.Encoding.{encoding, IsInstr}
use Rattle.x86_core.specs.Decoding.{decode}
use Rattle.obj_core.specs.declared.object.Func.{Func}
use Rattle.obj_core.specs.Object.{Each}

-- how many bytes an instruction has
abbrev pub size_of : Instr → ℕ
size_of i = length (encoding i)

-- instructions one after another
abbrev pub spelled : List Instr → List ℕ
spelled [] = []
spelled (i ∷ is) = encoding i ++ spelled is

-- the instructions that bytes are, from the first to the last
pub record IsDisassembly (bytes : List ℕ) (instrs : List Instr) : Type 0 where
  pub instructions : Each IsInstr instrs
  pub whole : spelled instrs ≡ bytes

-- an instruction, and those that its size leads to
abbrev pub and_behind : (ℕ → List Instr) → Decoded → List Instr
and_behind behind (One i size) = i ∷ behind size
and_behind behind Short = []
and_behind behind Unknown = []

-- the instructions that bytes begin with, at most so many
abbrev pub first_instrs : ℕ → List ℕ → List Instr
first_instrs zero bs = []
first_instrs (suc n) bs = and_behind (λ size. first_instrs n (drop size bs)) (decode bs)

-- the instructions that bytes begin with; where bytes have a disassembly, it is this one
unfoldable pub disassembly_of : List ℕ → List Instr
disassembly_of bs = first_instrs (length bs) bs

-- each function's disassembly, none of them empty
abbrev pub AreDisassemblies : List Func → List (List Instr) → Type 0
AreDisassemblies [] [] = Unit {0}
AreDisassemblies (f ∷ fs) ((i ∷ is) ∷ disassemblies) = IsDisassembly f.bytes (i ∷ is) × AreDisassemblies fs disassemblies
AreDisassemblies fs disassemblies = ⊥

-- an instruction at its offset from the function's start
pub record Found : Type 0 where
  pub at : ℕ
  pub instr : Instr

abbrev pub found_from : ℕ → List Instr → List Found
found_from at [] = []
found_from at (i ∷ is) = record { at = at; instr = i } ∷ found_from (at + size_of i) is

abbrev pub found : List Instr → List Found
found instrs = found_from 0 instrs

-- whether an instruction starts at an offset
abbrev pub starts_at : List Found → ℕ → Bool
starts_at [] off = false
starts_at (x ∷ xs) off = nat_eq x.at off || starts_at xs off

-- an instruction at an offset, and the others, which its size leads to
abbrev pub and_others : ℕ → (ℕ → List Found) → Decoded → List Found
and_others at others (One i size) = record { at = at; instr = i } ∷ others size
and_others at others Short = []
and_others at others Unknown = []

-- the instructions that bytes are, from an offset on, as far as they are any; so many bytes belong to the one before
abbrev pub instrs_from : ℕ → ℕ → List ℕ → List Found
instrs_from left at [] = []
instrs_from (suc left) at (b ∷ bs) = instrs_from left (at + 1) bs
instrs_from zero at (b ∷ bs) = and_others at (λ size. instrs_from (size - 1) (at + 1) bs) (decode (b ∷ bs))

abbrev pub instrs_in : List ℕ → List Found
instrs_in bytes = instrs_from 0 0 bytes
