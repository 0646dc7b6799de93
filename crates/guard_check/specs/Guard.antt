-- The guard: ten instructions that a run passes only where the word in r11 is a slot's address, plus 0 or 5.
use Rattle.std.specs.Prelude.{ℕ, ◌+◌, ◌*◌, Bool, true, false, ◌&&◌, nat_lt, nat_le, List, [], ◌∷◌, pos}
use Rattle.x86_core.specs.declared.reg.Reg.TheVariants.{R10, R11}
use Rattle.x86_core.specs.declared.instr.Wide.{Wide}
use Rattle.x86_core.specs.declared.instr.ImmOp.{ImmOp}
use Rattle.x86_core.specs.declared.instr.Cond.{Cond}
use Rattle.x86_core.specs.declared.instr.Instr.{Instr}
use Rattle.x86_core.specs.declared.instr.Instr.TheVariants.{Mov, AluImm, Jcc, Ud2}
use Rattle.x86_core.specs.Encoding.{encoding}
use Rattle.obj_core.specs.Slots.{slot_base}
use Rattle.obj_core.specs.Saved.{same_bytes}

-- the guard among so many slots. A copy of r11, counted from the first slot, is below 16 times their number; its
-- remainder by 16 is 0 or 5; else the run stops. It goes on behind the guard.
abbrev pub guard : ℕ → List Instr
guard slots =
    Mov Wide.W64 R10 R11 ∷
    AluImm ImmOp.Sub Wide.W64 R10 (pos slot_base) ∷
    AluImm ImmOp.Cmp Wide.W64 R10 (pos (16 * slots)) ∷
    Jcc Cond.B (pos 2) ∷
    Ud2 ∷
    AluImm ImmOp.And Wide.W64 R10 (pos 15) ∷
    Jcc Cond.E (pos 15) ∷
    AluImm ImmOp.Cmp Wide.W64 R10 (pos 5) ∷
    Jcc Cond.E (pos 2) ∷
    Ud2 ∷ []

-- the bytes of a guard
abbrev pub guard_size : ℕ
guard_size = 53

-- an offset where a guard before this place is under way: behind its first byte, and up to the place
abbrev pub is_inside : ℕ → ℕ → Bool
is_inside place off = nat_lt place (off + guard_size) && nat_le off place

-- an offset of an instruction of the guard before a place
abbrev pub is_of_guard : ℕ → ℕ → Bool
is_of_guard place off = nat_le place (off + guard_size) && nat_lt off place

-- the same instruction: no two have the same bytes
abbrev pub is_same : Instr → Instr → Bool
is_same i j = same_bytes (encoding i) (encoding j)

-- a row of instructions backwards, before another one
abbrev pub turned : List Instr → List Instr → List Instr
turned [] others = others
turned (i ∷ is) others = turned is (i ∷ others)

abbrev pub begins : List Instr → List Instr → Bool
begins [] is = true
begins (j ∷ js) [] = false
begins (j ∷ js) (i ∷ is) = is_same j i && begins js is

-- the instructions before a place, the nearest one first, begin with the guard's, the last one first
abbrev pub follows_guard : ℕ → List Instr → Bool
follows_guard slots behind = begins (turned (guard slots) []) behind
