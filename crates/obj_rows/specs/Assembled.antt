-- An object put together: the functions of a program with routines behind them, the slots of a plan, and placed data.
use Rattle.std.specs.Prelude.{◌≡◌, ℕ, suc, ◌+◌, ◌-◌, ◌&&◌, nat_eq, nat_le, nat_lt, if◌then◌else◌, List, [], ◌∷◌, ◌++◌, length, take, Option, Some, None, slice_get}
use Rattle.obj_core.specs.declared.object.Object.{Object}
use Rattle.obj_core.specs.declared.object.Func.{Func}
use Rattle.obj_core.specs.declared.object.Link.{Link}
use Rattle.obj_core.specs.declared.object.Slot.{Slot}
use Rattle.obj_core.specs.declared.object.CodeAt.{CodeAt}
use Rattle.obj_core.specs.declared.plan.Site.{Site}
use Rattle.obj_core.specs.declared.plan.Slot0.{Slot0}
use Rattle.obj_core.specs.declared.plan.SlotPlan.{SlotPlan}
use Rattle.obj_core.specs.declared.plan.Placing.{Placing}
use Rattle.obj_core.specs.Slots.{positions}

-- as many cuts are kept in an object
abbrev pub most_cuts : ℕ
most_cuts = 100000

-- functions with so many of their cuts, the first ones
abbrev pub with_first_cuts : ℕ → List Func → List Func
with_first_cuts count [] = []
with_first_cuts count (f ∷ fs) = record f { cuts = take count f.cuts } ∷ with_first_cuts (count - length f.cuts) fs

-- where the jumps of function n end that link to a slot
abbrev pub ends_in : ℕ → ℕ → List Link → List CodeAt
ends_in slot n [] = []
ends_in slot n (l ∷ ls) = if nat_eq l.slot slot then record { function = n; offset = l.at + 4 } ∷ ends_in slot n ls else ends_in slot n ls

-- the same of functions, of which the first has a number
abbrev pub ends_from : ℕ → ℕ → List Func → List CodeAt
ends_from slot n [] = []
ends_from slot n (f ∷ fs) = ends_in slot n f.links ++ ends_from slot (suc n) fs

-- a planned slot as an object has it: its way back is the end of the one jump that links to it
abbrev pub IsSlotOf : List Func → ℕ → Slot0 → Slot → Type 0
IsSlotOf fs k (Slot0.Entry target) (Slot.Entry f) = f ≡ target
IsSlotOf fs k (Slot0.Jump target) (Slot.Jump f) = f ≡ target
IsSlotOf fs k (Slot0.Call target site) (Slot.Call f back) = (f ≡ target) × (ends_from k 0 fs ≡ back ∷ [])
IsSlotOf fs k (Slot0.Indirect site) (Slot.Indirect back) = ends_from k 0 fs ≡ back ∷ []
IsSlotOf fs k (Slot0.System site) (Slot.System back) = ends_from k 0 fs ≡ back ∷ []
IsSlotOf fs k planned slot = ⊥

-- slots in their order, of which the first has a number
abbrev pub AreSlotsOf : List Func → ℕ → List Slot0 → List Slot → Type 0
AreSlotsOf fs k [] [] = Unit {0}
AreSlotsOf fs k (s ∷ ss) (t ∷ ts) = IsSlotOf fs k s t × AreSlotsOf fs (suc k) ss ts
AreSlotsOf fs k ss ts = ⊥

-- an object made of functions, routines, a plan of slots whose positions the slot seed draws, placed data, and both seeds
pub record IsAssembled (funcs routines : List Func) (plan : SlotPlan) (placing : Placing) (slot_draw reg_draw : ℕ) (o : Object) : Type 0 where
  pub functions : o.functions ≡ with_first_cuts most_cuts funcs ++ routines
  pub slots : AreSlotsOf o.functions 0 plan.slots o.slots
  pub places : plan.positions ≡ positions o
  pub ro : o.ro ≡ placing.ro
  pub rw : o.rw ≡ placing.rw
  pub slot_seed : o.slot_seed ≡ slot_draw
  pub reg_seed : o.reg_seed ≡ reg_draw

-- the jump to a planned slot that comes back
abbrev pub site_of : Slot0 → Option Site
site_of (Slot0.Entry target) = None
site_of (Slot0.Jump target) = None
site_of (Slot0.Call target site) = Some site
site_of (Slot0.Indirect site) = Some site
site_of (Slot0.System site) = Some site

-- functions, the first of which has a number, link once to each planned slot whose site is in one of them, and to no other
-- slot that comes back
abbrev pub LinkOnce : ℕ → List Func → List Slot0 → Type 0
LinkOnce first fs slots =
    (k : ℕ) (slot : Slot0) (site : Site) → slice_get slots k ≡ Some slot → site_of slot ≡ Some site →
    length (ends_from k first fs) ≡ (if nat_le first site.function && nat_lt site.function (first + length fs) then 1 else 0)
