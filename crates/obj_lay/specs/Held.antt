-- When executable bytes hold an object: each place of the object at which a step may stand has an address, and the
-- bytes there are the instruction that the object has at that place.
use Rattle.std.specs.Prelude.{◌≡◌, ℕ, ◌+◌, ◌%◌, ◌^◌, ◌<◌, ◌≤◌, ◌⊎◌, Bool, true, false, List, [], ◌∷◌, ◌++◌, length, drop, Some, slice_get, ℤ}
use Rattle.x86_core.specs.declared.instr.Instr.{Instr}
use Rattle.x86_core.specs.declared.instr.Instr.TheVariants.{Jcc, Jmp, Call, Ret, CallR11, JmpR11, Syscall, Ud2, Int3, Nop}
use Rattle.x86_core.specs.declared.image.Segment.{Segment}
use Rattle.x86_core.specs.declared.image.Image.{Image}
use Rattle.x86_core.specs.Arithmetic.{moved}
use Rattle.x86_core.specs.Encoding.{encoding, IsInstr}
use Rattle.x86_core.specs.Memory.{reads, writes, code_at, data_of, code_of}
use Rattle.x86_core.specs.Data.{data_segments}
use Rattle.x86_core.specs.Machine.{machine_segments}
use Rattle.obj_core.specs.declared.object.Object.{Object}
use Rattle.obj_core.specs.declared.object.Func.{Func}
use Rattle.obj_core.specs.declared.object.Slot.{Slot}
use Rattle.obj_core.specs.declared.object.Place.{Place}
use Rattle.obj_core.specs.Slots.{slot_start}
use Rattle.obj_core.specs.Disassembly.{size_of}
use Rattle.obj_core.specs.SymbolicMachine.{link_before, target, at_code}

-- segments that may be neither read nor written
abbrev pub AreHidden : List Segment → Type 0
AreHidden [] = Unit {0}
AreHidden (s ∷ ss) = (reads s.rights ≡ false) × (writes s.rights ≡ false) × AreHidden ss

-- the bytes at an address begin with an instruction
pub record IsAt (exec : List Segment) (at : ℕ) (i : Instr) : Type 0 where
  pub is_instr : IsInstr i
  pub rest : List ℕ
  pub bytes : code_at exec at ≡ Some (encoding i ++ rest)

-- the bytes at an address begin with an instruction whose displacement, counted from its end, leads to another address
pub record IsAtTo (exec : List Segment) (at : ℕ) (make : ℤ → Instr) (to : ℕ) : Type 0 where
  pub by : ℤ
  pub here : IsAt exec at (make by)
  pub leads : moved ((at + size_of (make by)) % 2 ^ 64) by ≡ to

-- a function's bytes at an offset begin with an instruction
pub record HasInstr (o : Object) (n off : ℕ) : Type 0 where
  pub func : Func
  pub found : slice_get o.functions n ≡ Some func
  pub instr : Instr
  pub is_instr : IsInstr instr
  pub rest : List ℕ
  pub bytes : drop off func.bytes ≡ encoding instr ++ rest

module _ (exec : List Segment) (place : Place → ℕ) (is_place : Place → Bool) (o : Object) where
  -- a step may stand there
  abbrev pub IsPlace : Place → Type 0
  IsPlace p = is_place p ≡ true

  -- an instruction with a displacement stands at one place and leads to another
  pub record Leads (p : Place) (make : ℤ → Instr) (to : Place) : Type 0 where
    pub there : IsPlace to
    pub branch : IsAtTo exec (place p) make (place to)

  -- the place behind an instruction of so many bytes is one, and stands behind it
  pub record FallsThrough (n off size : ℕ) : Type 0 where
    pub next : IsPlace (Place.Code n (off + size))
    pub behind : place (Place.Code n (off + size)) ≡ (place (Place.Code n off) + size) % 2 ^ 64

  -- what stands at the place of an instruction of a function. Branches lead where the object says, what only a slot may
  -- do does not occur, and only what goes on to the next instruction asks for one.
  abbrev pub CodeStands : Func → ℕ → ℕ → Instr → Type 0
  CodeStands f n off (Jcc c by) = Leads (Place.Code n off) (Jcc c) (target n (off + 6) (link_before f.links (off + 6)) by) × FallsThrough n off 6
  CodeStands f n off (Jmp by) = Leads (Place.Code n off) Jmp (target n (off + 5) (link_before f.links (off + 5)) by)
  CodeStands f n off (Call by) = ⊥
  CodeStands f n off CallR11 = ⊥
  CodeStands f n off Syscall = ⊥
  CodeStands f n off Ret = IsAt exec (place (Place.Code n off)) Ret
  CodeStands f n off JmpR11 = IsAt exec (place (Place.Code n off)) JmpR11
  CodeStands f n off Ud2 = IsAt exec (place (Place.Code n off)) Ud2
  CodeStands f n off Int3 = IsAt exec (place (Place.Code n off)) Int3
  CodeStands f n off i = IsAt exec (place (Place.Code n off)) i × FallsThrough n off (size_of i)

  -- a `nop` of a slot, and the place behind it
  pub record Idles (k at : ℕ) : Type 0 where
    pub next : IsPlace (Place.Slot k (at + 1))
    pub here : IsAt exec (place (Place.Slot k at)) Nop

  -- what stands at a byte of a slot: a jump or a call to the function and the jump back, or what fills their place
  abbrev pub SlotStands : ℕ → ℕ → Slot → Type 0
  SlotStands k at (Slot.Entry f) =
      ((at ≡ 0) × Leads (Place.Slot k 0) Jmp (Place.Code f 0)) ⊎
      ((at ≡ 5) × IsAt exec (place (Place.Slot k 5)) Int3)
  SlotStands k at (Slot.Jump f) =
      ((at ≡ 0) × Leads (Place.Slot k 0) Jmp (Place.Code f 0)) ⊎
      ((at ≡ 5) × IsAt exec (place (Place.Slot k 5)) Int3)
  SlotStands k at (Slot.Call f back) =
      ((at ≡ 0) × Leads (Place.Slot k 0) Call (Place.Code f 0)) ⊎
      ((at ≡ 5) × Leads (Place.Slot k 5) Jmp (at_code back))
  SlotStands k at (Slot.Indirect back) =
      ((at < 2) × Idles k at) ⊎
      (((at ≡ 2) × IsAt exec (place (Place.Slot k 2)) CallR11) ⊎
      ((at ≡ 5) × Leads (Place.Slot k 5) Jmp (at_code back)))
  SlotStands k at (Slot.System back) =
      ((at ≡ 0) × IsPlace (Place.Slot k 2) × IsAt exec (place (Place.Slot k 0)) Syscall) ⊎
      (((2 ≤ at) × (at < 5) × Idles k at) ⊎
      ((at ≡ 5) × Leads (Place.Slot k 5) Jmp (at_code back)))

  -- a slot, and what stands at one of its bytes, at the address that the object gives it
  pub record HasSlot (k at : ℕ) : Type 0 where
    pub slot : Slot
    pub found : slice_get o.slots k ≡ Some slot
    pub stands : SlotStands k at slot
    pub address : place (Place.Slot k at) ≡ slot_start o k + at
    pub fits : slot_start o k + 5 < 2 ^ 64

  -- both places of a slot that a word may name
  pub record HasLanding (k : ℕ) : Type 0 where
    pub start : IsPlace (Place.Slot k 0)
    pub back : IsPlace (Place.Slot k 5)

  -- the executable bytes hold the object, with these addresses for its places
  pub record HoldsPlaces : Type 0 where
    pub hidden : AreHidden exec
    pub code : (n off : ℕ) → IsPlace (Place.Code n off) → (s : HasInstr o n off) × CodeStands s.func n off s.instr
    pub slots : (k at : ℕ) → IsPlace (Place.Slot k at) → HasSlot k at
    pub landing : (k : ℕ) → k < length o.slots → HasLanding k

-- an image of an object: its executable segments hold the object, the others are the object's data, and it is entered at slot 0
pub record HoldsObject (image : Image) (place : Place → ℕ) (is_place : Place → Bool) (o : Object) : Type 0 where
  pub places : HoldsPlaces (code_of (machine_segments image)) place is_place o
  pub readable : data_of (machine_segments image) ≡ data_segments o.ro o.rw
  pub entry : image.entry ≡ slot_start o 0
  pub some_slot : 0 < length o.slots
