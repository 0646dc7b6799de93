-- The places of a well-formed object at which a step may stand, and when bytes hold its instructions at their addresses.
use Rattle.std.specs.Prelude.{◌≡◌, ℕ, ◌+◌, ◌%◌, ◌^◌, Bool, true, false, ◌||◌, nat_eq, List, Option, Some, None, slice_get}
use Rattle.x86_core.specs.declared.instr.Instr.{Instr}
use Rattle.x86_core.specs.declared.instr.Instr.TheVariants.{Jcc, Jmp, Call, CallR11, Syscall, Int3, Nop}
use Rattle.x86_core.specs.declared.image.Segment.{Segment}
use Rattle.obj_core.specs.declared.object.Object.{Object}
use Rattle.obj_core.specs.declared.object.Func.{Func}
use Rattle.obj_core.specs.declared.object.Slot.{Slot}
use Rattle.obj_core.specs.declared.object.Place.{Place}
use Rattle.obj_core.specs.Slots.{slot_start}
use Rattle.obj_core.specs.Disassembly.{found, starts_at, size_of}
use Rattle.obj_core.specs.WellFormed.{is_end}
use Rattle.obj_core.specs.SymbolicMachine.{link_before, target, at_code}
use Rattle.obj_lay.specs.Held.{AreHidden, IsAt, IsAtTo, HasInstr}

-- the starts of instructions
abbrev pub is_code_place : Option (List Instr) → ℕ → Bool
is_code_place None off = false
is_code_place (Some instrs) off = starts_at (found instrs) off

-- the starts of a slot's instructions, and the byte behind its call
abbrev pub is_slot_place : Option Slot → ℕ → Bool
is_slot_place None at = false
is_slot_place (Some (Slot.Indirect back)) at = nat_eq at 0 || (nat_eq at 1 || (nat_eq at 2 || nat_eq at 5))
is_slot_place (Some (Slot.System back)) at = nat_eq at 0 || (nat_eq at 2 || (nat_eq at 3 || (nat_eq at 4 || nat_eq at 5)))
is_slot_place (Some s) at = nat_eq at 0 || nat_eq at 5

-- the places of an object whose functions have these disassemblies
abbrev pub is_step_place : Object → List (List Instr) → Place → Bool
is_step_place o disassemblies (Place.Code n off) = is_code_place (slice_get disassemblies n) off
is_step_place o disassemblies (Place.Slot k at) = is_slot_place (slice_get o.slots k) at

module _ (exec : List Segment) (place : Place → ℕ) (o : Object) where
  -- the bytes of an instruction of a function: a branch leads to the address of its target, and all others are as they were
  abbrev pub CodeBytes : Func → ℕ → ℕ → Instr → Type 0
  CodeBytes f n off (Jcc c by) = IsAtTo exec (place (Place.Code n off)) (Jcc c) (place (target n (off + 6) (link_before f.links (off + 6)) by))
  CodeBytes f n off (Jmp by) = IsAtTo exec (place (Place.Code n off)) Jmp (place (target n (off + 5) (link_before f.links (off + 5)) by))
  CodeBytes f n off i = IsAt exec (place (Place.Code n off)) i

  -- the bytes of a slot
  abbrev pub SlotBytes : ℕ → Slot → Type 0
  SlotBytes k (Slot.Entry f) = IsAtTo exec (place (Place.Slot k 0)) Jmp (place (Place.Code f 0)) × IsAt exec (place (Place.Slot k 5)) Int3
  SlotBytes k (Slot.Jump f) = IsAtTo exec (place (Place.Slot k 0)) Jmp (place (Place.Code f 0)) × IsAt exec (place (Place.Slot k 5)) Int3
  SlotBytes k (Slot.Call f back) = IsAtTo exec (place (Place.Slot k 0)) Call (place (Place.Code f 0)) × IsAtTo exec (place (Place.Slot k 5)) Jmp (place (at_code back))
  SlotBytes k (Slot.Indirect back) =
      IsAt exec (place (Place.Slot k 0)) Nop × IsAt exec (place (Place.Slot k 1)) Nop × IsAt exec (place (Place.Slot k 2)) CallR11 ×
      IsAtTo exec (place (Place.Slot k 5)) Jmp (place (at_code back))
  SlotBytes k (Slot.System back) =
      IsAt exec (place (Place.Slot k 0)) Syscall × IsAt exec (place (Place.Slot k 2)) Nop × IsAt exec (place (Place.Slot k 3)) Nop ×
      IsAt exec (place (Place.Slot k 4)) Nop × IsAtTo exec (place (Place.Slot k 5)) Jmp (place (at_code back))

  -- hidden bytes hold each instruction and each slot of an object with these disassemblies, and what is run past has the
  -- next instruction behind it
  pub record HoldsInstrs (disassemblies : List (List Instr)) : Type 0 where
    pub hidden : AreHidden exec
    pub code : (n off : ℕ) → is_code_place (slice_get disassemblies n) off ≡ true → (s : HasInstr o n off) → CodeBytes s.func n off s.instr
    pub neighbours : (n off : ℕ) → is_code_place (slice_get disassemblies n) off ≡ true → (s : HasInstr o n off) → is_end s.instr ≡ false → is_code_place (slice_get disassemblies n) (off + size_of s.instr) ≡ true → place (Place.Code n (off + size_of s.instr)) ≡ (place (Place.Code n off) + size_of s.instr) % 2 ^ 64
    pub slots : (k : ℕ) (s : Slot) → slice_get o.slots k ≡ Some s → SlotBytes k s
    pub addresses : (k at : ℕ) → place (Place.Slot k at) ≡ slot_start o k + at
