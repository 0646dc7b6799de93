-- What the checker's parts are told and answer.
use Rattle.std.specs.Prelude.{◌≡◌, ℕ, zero, suc, ◌+◌, ◌≤◌, Bool, true, false, not, ◌&&◌, ◌||◌, List, [], ◌∷◌, length, map, Option, Some, None}
use Rattle.std.specs.List.{list_all}
use Rattle.x86_core.specs.declared.instr.Instr.{Instr}
use Rattle.x86_core.specs.declared.instr.Decoded.{Decoded}
use Rattle.x86_core.specs.declared.instr.Decoded.TheVariants.{One, Short, Unknown}
use Rattle.obj_core.specs.declared.object.Object.{Object}
use Rattle.obj_core.specs.declared.object.Func.{Func}
use Rattle.obj_core.specs.declared.object.Slot.{Slot}
use Rattle.obj_core.specs.Disassembly.{IsDisassembly, found, size_of, disassembly_of}
use Rattle.obj_core.specs.WellFormed.{Spot, Function, OfSlot, Violation, most_code, most_slots, is_start, bad_links, bad_branches}
use Rattle.guard_check.specs.declared.instr_at.InstrAt.{InstrAt}
use Rattle.guard_check.specs.declared.check.CodeRule.{CodeRule}
use Rattle.guard_check.specs.declared.fault.GuardSpot.{GuardSpot}
use Rattle.guard_check.specs.declared.fault.GuardFault.{GuardFault}
use Rattle.guard_check.specs.Guard.{is_inside, is_of_guard, follows_guard}
use Rattle.guard_check.specs.Form.{is_guarded, is_refused, guarded_places, breaks_in, offsets_in, HasGuardForm, IsFirstUnguarded}

-- a decoder's answer at an offset
abbrev pub placed : ℕ → Decoded → Option InstrAt
placed at (One i size) = Some (record { at = at; end = at + size; instr = i })
placed at Short = None
placed at Unknown = None

-- the instructions of each function
abbrev pub disassemblies_of : List Func → List (List Instr)
disassemblies_of = map (λ (f : Func). disassembly_of f.bytes)

-- what is known of a function of a well-formed object with so many slots
pub record IsKnown (slots : ℕ) (f : Func) : Type 0 where
  pub disassembly : IsDisassembly f.bytes (disassembly_of f.bytes)
  pub some : 1 ≤ length (disassembly_of f.bytes)
  pub few : length f.bytes ≤ most_code
  pub few_slots : slots ≤ most_slots
  pub links : bad_links None (found (disassembly_of f.bytes)) slots f.links ≡ []
  pub branches : bad_branches f.links (found (disassembly_of f.bytes)) (found (disassembly_of f.bytes)) ≡ []

abbrev pub AreKnown : ℕ → List Func → Type 0
AreKnown slots [] = Unit {0}
AreKnown slots (f ∷ fs) = IsKnown slots f × AreKnown slots fs

-- the way back of a slot is the start of an instruction
abbrev pub comes_well : List (List Instr) → Slot → Bool
comes_well disassemblies (Slot.Entry f) = true
comes_well disassemblies (Slot.Jump f) = true
comes_well disassemblies (Slot.Call f back) = is_start disassemblies back
comes_well disassemblies (Slot.Indirect back) = is_start disassemblies back
comes_well disassemblies (Slot.System back) = is_start disassemblies back

-- where a rule fails in a function
abbrev pub rule_number : CodeRule → ℕ
rule_number CodeRule.Refused = 1
rule_number CodeRule.Unguarded = 2
rule_number CodeRule.Breaking = 3

abbrev pub fails_at : CodeRule → List Slot → Func → List Instr → List Instr → ℕ → Instr → Bool
fails_at CodeRule.Refused slots f all behind at i = is_refused slots f (at + size_of i) i
fails_at CodeRule.Unguarded slots f all behind at i = is_guarded slots f (at + size_of i) i && not (follows_guard (length slots) behind)
fails_at CodeRule.Breaking slots f all behind at i = breaks_in (guarded_places slots f all) f at i

abbrev pub failing : CodeRule → List Slot → Func → List Instr → List ℕ
failing rule slots f all = offsets_in (fails_at rule slots f all) all

abbrev pub first_of : List ℕ → Option ℕ
first_of [] = None
first_of (n ∷ ns) = Some n

-- whether an offset is one of a guard before a place
abbrev pub is_but : Option ℕ → ℕ → Bool
is_but None place = false
is_but (Some at) place = is_of_guard place at

-- no guard has an offset inside it, but those of one instruction
abbrev pub keeps_off : List ℕ → ℕ → Option ℕ → Bool
keeps_off places off but = list_all (λ place. is_but but place || not (is_inside place off)) places

-- an instruction of the guard among so many slots, by its number; the last one for every other number
abbrev pub nth_of : Instr → List Instr → ℕ → Instr
nth_of last [] n = last
nth_of last (i ∷ is) zero = i
nth_of last (i ∷ is) (suc n) = nth_of last is n

abbrev pub spot_of : GuardSpot → Spot
spot_of (GuardSpot.Function n) = Function n
spot_of (GuardSpot.Slot k) = OfSlot k

abbrev pub violation_of : GuardFault → Violation
violation_of (GuardFault.Rule rule spot offset) = record { rule = rule; spot = spot_of spot; offset = offset }

abbrev pub as_violation : Option GuardFault → Option Violation
as_violation None = None
as_violation (Some f) = Some (violation_of f)

-- nothing is wrong, or this comes first
abbrev pub Judges : Object → Option GuardFault → Type 0
Judges o None = HasGuardForm o
Judges o (Some f) = IsFirstUnguarded o (violation_of f)
