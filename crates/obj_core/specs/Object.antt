-- An object as the bytes of its file, in format 2 and, where no function is cut, in format 1 too.
use Rattle.std.specs.Prelude.{◌≡◌, ℕ, ◌^◌, ◌<◌, ◌⊎◌, List, [], ◌∷◌, ◌++◌, length}
use Rattle.rd_num.specs.Number.{le_bytes}
use Rattle.obj_core.specs.declared.object.Object.{Object}
use Rattle.obj_core.specs.declared.object.Func.{Func}
use Rattle.obj_core.specs.declared.object.FuncKind.{FuncKind}
use Rattle.obj_core.specs.declared.object.Link.{Link}
use Rattle.obj_core.specs.declared.object.Slot.{Slot}
use Rattle.obj_core.specs.declared.object.CodeAt.{CodeAt}

-- a field of four bytes
abbrev pub field : ℕ → List ℕ
field n = le_bytes 4 n

-- `RDO1`
abbrev pub magic : List ℕ
magic = 82 ∷ 68 ∷ 79 ∷ 49 ∷ []

abbrev pub kind_number : FuncKind → ℕ
kind_number FuncKind.Plain = 0
kind_number FuncKind.Saved = 1

abbrev pub link_bytes : Link → List ℕ
link_bytes l = field l.at ++ field l.slot

abbrev pub links_bytes : List Link → List ℕ
links_bytes [] = []
links_bytes (l ∷ ls) = link_bytes l ++ links_bytes ls

abbrev pub cuts_bytes : List ℕ → List ℕ
cuts_bytes [] = []
cuts_bytes (c ∷ cs) = field c ++ cuts_bytes cs

abbrev pub function_bytes : Func → List ℕ
function_bytes f = field (kind_number f.kind) ++ (field (length f.bytes) ++ (field (length f.links) ++ (field (length f.cuts) ++ (f.bytes ++ (links_bytes f.links ++ cuts_bytes f.cuts)))))

-- a function without cuts in format 1
abbrev pub function_bytes_v1 : Func → List ℕ
function_bytes_v1 f = field (kind_number f.kind) ++ (field (length f.bytes) ++ (field (length f.links) ++ (f.bytes ++ links_bytes f.links)))

-- functions, each spelled in the same way
abbrev pub functions_bytes : (Func → List ℕ) → List Func → List ℕ
functions_bytes spelling [] = []
functions_bytes spelling (f ∷ fs) = spelling f ++ functions_bytes spelling fs

-- kind, target, and the way back; fields that a kind lacks are 0
abbrev pub slot_fields : ℕ → ℕ → ℕ → ℕ → List ℕ
slot_fields kind target function offset = field kind ++ (field target ++ (field function ++ field offset))

abbrev pub slot_bytes : Slot → List ℕ
slot_bytes (Slot.Entry target) = slot_fields 0 target 0 0
slot_bytes (Slot.Jump target) = slot_fields 1 target 0 0
slot_bytes (Slot.Call target back) = slot_fields 2 target back.function back.offset
slot_bytes (Slot.Indirect back) = slot_fields 3 0 back.function back.offset
slot_bytes (Slot.System back) = slot_fields 4 0 back.function back.offset

abbrev pub slots_bytes : List Slot → List ℕ
slots_bytes [] = []
slots_bytes (s ∷ ss) = slot_bytes s ++ slots_bytes ss

-- magic, the number of the format, the seeds, and four counts: 40 bytes
abbrev pub header_bytes : ℕ → Object → List ℕ
header_bytes format o =
    magic ++ (field format ++ (le_bytes 8 o.slot_seed ++ (le_bytes 8 o.reg_seed ++
    (field (length o.functions) ++ (field (length o.slots) ++ (field (length o.ro) ++ field (length o.rw)))))))

-- the bytes that are written: format 2
abbrev pub object_bytes : Object → List ℕ
object_bytes o = header_bytes 2 o ++ (functions_bytes function_bytes o.functions ++ (slots_bytes o.slots ++ (o.ro ++ o.rw)))

-- the bytes of format 1, which an object has where no function is cut
abbrev pub object_bytes_v1 : Object → List ℕ
object_bytes_v1 o = header_bytes 1 o ++ (functions_bytes function_bytes_v1 o.functions ++ (slots_bytes o.slots ++ (o.ro ++ o.rw)))

-- the ranges of fields: each number fits where it stands
abbrev pub IsByte : ℕ → Type 0
IsByte n = n < 256

abbrev pub IsField : ℕ → Type 0
IsField n = n < 2 ^ 32

pub record IsLink (l : Link) : Type 0 where
  pub at : IsField l.at
  pub slot : IsField l.slot

pub record IsCodeAt (c : CodeAt) : Type 0 where
  pub function : IsField c.function
  pub offset : IsField c.offset

abbrev pub IsSlot : Slot → Type 0
IsSlot (Slot.Entry target) = IsField target
IsSlot (Slot.Jump target) = IsField target
IsSlot (Slot.Call target back) = IsField target × IsCodeAt back
IsSlot (Slot.Indirect back) = IsCodeAt back
IsSlot (Slot.System back) = IsCodeAt back

abbrev pub Each : {T : Type 0} → (T → Type 0) → List T → Type 0
Each P [] = Unit {0}
Each P (x ∷ xs) = P x × Each P xs

pub record IsFunc (f : Func) : Type 0 where
  pub bytes : Each IsByte f.bytes
  pub links : Each IsLink f.links
  pub cuts : Each IsField f.cuts
  pub length_fits : IsField (length f.bytes)
  pub links_fit : IsField (length f.links)
  pub cuts_fit : IsField (length f.cuts)

-- an object whose numbers are in range and whose counts fit their fields
pub record IsObject (o : Object) : Type 0 where
  pub slot_seed : o.slot_seed < 2 ^ 64
  pub reg_seed : o.reg_seed < 2 ^ 64
  pub functions : Each IsFunc o.functions
  pub slots : Each IsSlot o.slots
  pub ro : Each IsByte o.ro
  pub rw : Each IsByte o.rw
  pub functions_fit : IsField (length o.functions)
  pub slots_fit : IsField (length o.slots)
  pub ro_fits : IsField (length o.ro)
  pub rw_fits : IsField (length o.rw)

-- a function that is one piece
abbrev pub IsUncut : Func → Type 0
IsUncut f = f.cuts ≡ []

-- the bytes are an object's file: that of format 2, or, where no function is cut, that of format 1
abbrev pub Spells : List ℕ → Object → Type 0
Spells bytes o = (bytes ≡ object_bytes o) ⊎ (Each IsUncut o.functions × (bytes ≡ object_bytes_v1 o))
