-- Which objects are guarded, and what is the first thing that is wrong with another one. There are four rules, in order;
-- a rule speaks of functions, in order, or of slots, in order, and in a function the least offset counts.
use Rattle.std.specs.Prelude.{◌≡◌, ℕ, ◌+◌, Bool, true, false, not, ◌&&◌, ◌||◌, if◌then◌else◌, List, [], ◌∷◌, length, Option, Some, None, slice_get, ℤ}
use Rattle.std.specs.List.{list_all}
use Rattle.x86_core.specs.declared.instr.Instr.{Instr}
use Rattle.x86_core.specs.declared.instr.Instr.TheVariants.{Jcc, Jmp, Ret, JmpR11}
use Rattle.x86_core.specs.Arithmetic.{moved}
use Rattle.obj_core.specs.declared.object.Object.{Object}
use Rattle.obj_core.specs.declared.object.Func.{Func}
use Rattle.obj_core.specs.declared.object.Slot.{Slot}
use Rattle.obj_core.specs.declared.object.CodeAt.{CodeAt}
use Rattle.obj_core.specs.Disassembly.{AreDisassemblies, size_of}
use Rattle.obj_core.specs.SymbolicMachine.{link_before}
use Rattle.obj_core.specs.WellFormed.{Violation, or_else, in_functions, in_slots, displacement, is_linked}
use Rattle.guard_check.specs.Guard.{is_inside, is_of_guard, follows_guard}

-- the offsets of the instructions that pass a test, which is told the instructions before, the nearest one first, and the offset
abbrev pub offsets_where : (List Instr → ℕ → Instr → Bool) → List Instr → ℕ → List Instr → List ℕ
offsets_where test behind at [] = []
offsets_where test behind at (i ∷ is) =
    if test behind at i then at ∷ offsets_where test (i ∷ behind) (at + size_of i) is else offsets_where test (i ∷ behind) (at + size_of i) is

abbrev pub offsets_in : (List Instr → ℕ → Instr → Bool) → List Instr → List ℕ
offsets_in test instrs = offsets_where test [] 0 instrs

-- the slot of a call by r11
abbrev pub is_indirect : Option Slot → Bool
is_indirect (Some (Slot.Indirect back)) = true
is_indirect s = false

-- a displacement leads to such a slot by its link
abbrev pub leads_indirect : List Slot → Option ℕ → Bool
leads_indirect slots None = false
leads_indirect slots (Some k) = is_indirect (slice_get slots k)

-- an instruction that goes on by the word in r11: a jump by r11, or to the slot of a call by r11
abbrev pub is_guarded : List Slot → Func → ℕ → Instr → Bool
is_guarded slots f end JmpR11 = true
is_guarded slots f end (Jmp by) = leads_indirect slots (link_before f.links end)
is_guarded slots f end i = false

abbrev pub guarded_places : List Slot → Func → List Instr → List ℕ
guarded_places slots f instrs = offsets_in (λ behind at i. is_guarded slots f (at + size_of i) i) instrs

-- rule 1: no return, and no branch under a condition to the slot of a call by r11
abbrev pub is_refused : List Slot → Func → ℕ → Instr → Bool
is_refused slots f end Ret = true
is_refused slots f end (Jcc c by) = leads_indirect slots (link_before f.links end)
is_refused slots f end i = false

abbrev pub refused_in : List Slot → Func → List Instr → List ℕ
refused_in slots f instrs = offsets_in (λ behind at i. is_refused slots f (at + size_of i) i) instrs

-- rule 2: before each guarded place stands the guard
abbrev pub unguarded_in : List Slot → Func → List Instr → List ℕ
unguarded_in slots f instrs =
    offsets_in (λ behind at i. is_guarded slots f (at + size_of i) i && not (follows_guard (length slots) behind)) instrs

-- rule 3: no branch without a link leads into a guard, but those of that guard
abbrev pub keeps_out : List ℕ → ℕ → ℕ → Option ℤ → Bool
keeps_out places at end None = true
keeps_out places at end (Some by) = list_all (λ place. is_of_guard place at || not (is_inside place (moved end by))) places

abbrev pub breaks_in : List ℕ → Func → ℕ → Instr → Bool
breaks_in places f at i = not (is_linked f.links (at + size_of i) || keeps_out places at (at + size_of i) (displacement i))

abbrev pub breaking_in : List Slot → Func → List Instr → List ℕ
breaking_in slots f instrs = offsets_in (λ behind at i. breaks_in (guarded_places slots f instrs) f at i) instrs

-- rule 4: no way back leads into a guard
abbrev pub comes_outside : List Slot → Option Func → Option (List Instr) → ℕ → Bool
comes_outside slots (Some f) (Some instrs) off = list_all (λ place. not (is_inside place off)) (guarded_places slots f instrs)
comes_outside slots f instrs off = true

abbrev pub is_good_back : Object → List (List Instr) → CodeAt → Bool
is_good_back o disassemblies back = comes_outside o.slots (slice_get o.functions back.function) (slice_get disassemblies back.function) back.offset

abbrev pub is_good_way : Object → List (List Instr) → Slot → Bool
is_good_way o disassemblies (Slot.Entry f) = true
is_good_way o disassemblies (Slot.Jump f) = true
is_good_way o disassemblies (Slot.Call f back) = is_good_back o disassemblies back
is_good_way o disassemblies (Slot.Indirect back) = is_good_back o disassemblies back
is_good_way o disassemblies (Slot.System back) = is_good_back o disassemblies back

-- the first of the four rules that fails, where these are the functions' disassemblies
abbrev pub guard_violation : Object → List (List Instr) → Option Violation
guard_violation o disassemblies =
    or_else (in_functions 1 (λ n f instrs. refused_in o.slots f instrs) 0 o.functions disassemblies)
    (or_else (in_functions 2 (λ n f instrs. unguarded_in o.slots f instrs) 0 o.functions disassemblies)
    (or_else (in_functions 3 (λ n f instrs. breaking_in o.slots f instrs) 0 o.functions disassemblies)
    (in_slots 4 (λ k s. is_good_way o disassemblies s) 0 o.slots)))

-- all four rules hold
pub record HasGuardForm (o : Object) : Type 0 where
  pub disassemblies : List (List Instr)
  pub disassembled : AreDisassemblies o.functions disassemblies
  pub kept : guard_violation o disassemblies ≡ None

-- the first rule that fails, where it fails first
pub record IsFirstUnguarded (o : Object) (v : Violation) : Type 0 where
  pub disassemblies : List (List Instr)
  pub disassembled : AreDisassemblies o.functions disassemblies
  pub first : guard_violation o disassemblies ≡ Some v
