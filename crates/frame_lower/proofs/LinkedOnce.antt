-- Each planned slot of a program is linked once in its functions where its jump stands there, and an object that is put together goes back behind that jump.
use Rattle.std.proofs.Common.{◌≡◌, ℕ, zero, suc, ◌+◌, ◌<◌, ◌≤◌, inl, inr, true, false, ◌&&◌, nat_le, nat_lt, if◌then◌else◌, List, [], ◌∷◌, ◌++◌, map, length, take, Some, pos, slice_get, refl, ap, sym, subst, ◌∙◌, arith}
use Rattle.std.proofs.lemmas.Bool.{le-leb, lt-ltb, le-ltb}
use Rattle.x86_core.specs.declared.reg.Reg.{Reg}
use Rattle.x86_core.specs.declared.instr.Instr.TheVariants as instr
use Rattle.low_core.specs.declared.sel.Home.{Home}
use Rattle.low_core.specs.declared.sel.SelFun.{SelFun}
use Rattle.low_core.specs.declared.sel.Sel.{Sel}
use Rattle.obj_core.specs.declared.object.Func.{Func}
use Rattle.obj_core.specs.declared.object.Object.{Object}
use Rattle.obj_core.specs.declared.object.Slot.{Slot}
use Rattle.obj_core.specs.declared.object.CodeAt.{CodeAt}
use Rattle.obj_core.specs.declared.object.Link.{Link}
use Rattle.obj_core.specs.declared.plan.Site.{Site}
use Rattle.obj_core.specs.declared.plan.Slot0.{Slot0}
use Rattle.obj_rows.specs.Marked.{Marked, linked, Stands}
use Rattle.obj_rows.specs.Assembled.{most_cuts, with_first_cuts, site_of, ends_from, IsSlotOf, AreSlotsOf, IsAssembled, LinkOnce}
use Rattle.slot_plan.specs.Slots.{jumps_from, all_calls_from, routine_slots, slots_of, takens}
use Rattle.slot_plan.proofs.Bounds.{jumps_long, all_calls_long}
use Rattle.slot_plan.proofs.Places.{parted}
use Rattle.frame_lower.specs.Functions.{Choices, functions_with, function_row, making_of, saved_function, lowered, slot_number}
use Rattle.frame_lower.specs.Given.{calls_of_functions}
use Rattle.frame_lower.proofs.Members.{IsIn, in_left, only_one, end_from, ends_uncut, ends_append, jump_linked, function_there}
use Rattle.frame_lower.proofs.Once.{none_from, one_from}
use Rattle.frame_lower.proofs.Sites.{jumps_have_none, functions_in, routines_behind}

get_below : {X : Type 0} (xs : List X) (k : ℕ) (x : X) → slice_get xs k ≡ Some x → k < length xs
get_below [] k x there = absurd cc
get_below (y ∷ xs) zero x there = omega arith
get_below (y ∷ xs) (suc k) x there = let r = get_below xs k x there in omega (arith, r)

-- as many functions as the program has
functions_long : (globals functions : List ℕ) (reg_draw : ℕ) (names : List (List Reg)) (homes : List (List Home)) (number slot : ℕ) (fs : List SelFun) → length (functions_with globals functions reg_draw names homes number slot fs) ≡ length fs
functions_long globals functions reg_draw names homes number slot [] = refl
functions_long globals functions reg_draw names homes number slot (f ∷ fs) = ap suc (functions_long globals functions reg_draw names homes (suc number) _ fs)

pub lowered_long : (c : Choices) (sel : Sel) → length (lowered c sel) ≡ length sel.functions
unfolding lowered
lowered_long c sel = functions_long c.placing.globals (map slot_number c.slots.pointers) c.reg_seed c.names c.homes 0 (suc (takens sel.taken)) sel.functions

-- outside of the slots of calls there is none, and inside there is one
lowered_none : (c : Choices) (sel : Sel) (k : ℕ) → suc (takens sel.taken) + calls_of_functions sel.functions ≤ k → ends_from k 0 (lowered c sel) ≡ []
unfolding lowered
lowered_none c sel k beyond = none_from c.placing.globals (map slot_number c.slots.pointers) c.reg_seed c.names c.homes k 0 (suc (takens sel.taken)) sel.functions (inr beyond)

lowered_one : (c : Choices) (sel : Sel) (k : ℕ) → suc (takens sel.taken) ≤ k → k < suc (takens sel.taken) + calls_of_functions sel.functions → length (ends_from k 0 (lowered c sel)) ≡ 1
unfolding lowered
lowered_one c sel k low high = one_from c.placing.globals (map slot_number c.slots.pointers) c.reg_seed c.names c.homes k 0 (suc (takens sel.taken)) sel.functions low high

pub linked_once : (c : Choices) (sel : Sel) → LinkOnce 0 (lowered c sel) (slots_of sel)
linked_once c sel zero slot site there has =
    let same : Slot0.Entry (length sel.functions) ≡ slot = cc in
    let none : site_of (Slot0.Entry (length sel.functions)) ≡ Some site = ap site_of same ∙ has in
    absurd cc
linked_once c sel (suc j) slot site there has =
    let count : ℕ = length sel.functions in
    let jumps = jumps_from 0 sel.taken in
    let calls = all_calls_from count 0 sel.functions in
    let routines = routine_slots count sel.main in
    let jumps_are : length jumps ≡ takens sel.taken = jumps_long 0 sel.taken in
    let calls_are : length calls ≡ calls_of_functions sel.functions = all_calls_long count 0 sel.functions in
    let long : length (lowered c sel) ≡ count = lowered_long c sel in
    elim (parted jumps (calls ++ routines) j slot there) [
      | inl here ↦ absurd (jumps_have_none 0 sel.taken j slot site here has)
      | inr more ↦ elim (parted calls routines more.0 slot more.2) [
        | inl here ↦
            let below = functions_in count 0 sel.functions more.0 slot site here has in
            let inside = get_below calls more.0 slot here in
            let at = more.1 in
            let test : (nat_le 0 site.function && nat_lt site.function (0 + length (lowered c sel))) ≡ true =
            ap (λ b. b && nat_lt site.function (0 + length (lowered c sel))) (le-leb 0 site.function (omega arith)) ∙ lt-ltb _ _ (omega (arith, below, long)) in
            lowered_one c sel (suc j) (omega (arith, at, jumps_are)) (omega (arith, at, jumps_are, calls_are, inside))
            ∙ sym (ap (λ b. if b then 1 else 0) test)
        | inr behind ↦
            let beyond = routines_behind count sel.main behind.0 slot site behind.2 has in
            let at = more.1 in
            let at2 = behind.1 in
            let test : (nat_le 0 site.function && nat_lt site.function (0 + length (lowered c sel))) ≡ false =
            ap (λ b. b && nat_lt site.function (0 + length (lowered c sel))) (le-leb 0 site.function (omega arith)) ∙ le-ltb _ _ (omega (arith, beyond, long)) in
            ap length (lowered_none c sel (suc j) (omega (arith, at, at2, jumps_are, calls_are)))
            ∙ sym (ap (λ b. if b then 1 else 0) test)
      ]
    ]

-- the function of a number
pub lowered_there : (c : Choices) (sel : Sel) (g : ℕ) (f : SelFun) → slice_get sel.functions g ≡ Some f →
    slice_get (lowered c sel) g ≡ Some (saved_function (function_row (making_of c g f) (suc (takens sel.taken) + calls_of_functions (take g sel.functions)) f))
unfolding lowered
lowered_there c sel g f there =
    let number : 0 + g ≡ g = omega arith in
    function_there c.placing.globals (map slot_number c.slots.pointers) c.reg_seed c.names c.homes 0 (suc (takens sel.taken)) sel.functions g f there
    ∙ ap (λ n. Some (saved_function (function_row (making_of c n f) (suc (takens sel.taken) + calls_of_functions (take g sel.functions)) f))) number

-- a function goes back behind the one jump to a slot
way_of : (row : List Marked) (fs routines : List Func) (g off k : ℕ) (rest : List Marked) (back : CodeAt) → slice_get fs g ≡ Some (saved_function row) → Stands row off (linked (instr.Jmp (pos 0)) k ∷ rest) →
    ends_from k 0 (with_first_cuts most_cuts fs ++ routines) ≡ back ∷ [] → back ≡ (let e : CodeAt = record { function = g; offset = off + 5 } in e)
way_of row fs routines g off k rest back there stands ends =
    let link : Link = record { at = off + 1; slot = k } in
    let e : CodeAt = record { function = 0 + g; offset = off + 1 + 4 } in
    let first : IsIn e (ends_from k 0 fs) = end_from k 0 g fs (saved_function row) link there refl (jump_linked row rest off k stands) in
    let cut : IsIn e (ends_from k 0 (with_first_cuts most_cuts fs)) = subst (IsIn e) (sym (ends_uncut most_cuts k 0 fs)) first in
    let all : IsIn e (ends_from k 0 (with_first_cuts most_cuts fs ++ routines)) =
    subst (IsIn e) (sym (ends_append k 0 (with_first_cuts most_cuts fs) routines)) (in_left e (ends_from k 0 (with_first_cuts most_cuts fs)) _ cut) in
    let same : e ≡ back = only_one e back (subst (IsIn e) ends all) in
    sym same ∙ places (0 + g) g (off + 1 + 4) (off + 5) (omega arith) (omega arith)
  where
    places : (a b c d : ℕ) → a ≡ b → c ≡ d → let x : CodeAt = record { function = a; offset = c } in let y : CodeAt = record { function = b; offset = d } in x ≡ y
    places a b c d e f = cc

-- a planned slot is a slot of the object
slots_at : (fs : List Func) (first : ℕ) (planned : List Slot0) (slots : List Slot) (k : ℕ) (s : Slot0) → AreSlotsOf fs first planned slots → slice_get planned k ≡ Some s → (t : Slot) × (slice_get slots k ≡ Some t) × IsSlotOf fs (first + k) s t
slots_at fs first [] slots k s are there = absurd cc
slots_at fs first (p ∷ ps) [] k s are there = absurd are
slots_at fs first (p ∷ ps) (t ∷ ts) zero s are there =
    let same : p ≡ s = cc in
    let number : first ≡ first + 0 = omega arith in
    (t, refl, subst (λ n. IsSlotOf fs n s t) number (subst (λ x. IsSlotOf fs first x t) same are.0))
slots_at fs first (p ∷ ps) (t ∷ ts) (suc k) s are there =
    let r = slots_at fs (suc first) ps ts k s are.1 there in
    let number : suc first + k ≡ first + suc k = omega arith in
    (r.0, r.1, subst (λ n. IsSlotOf fs n s r.0) number r.2)

module _ (c : Choices) (sel : Sel) (routines : List Func) (slot_draw reg_draw : ℕ) (o : Object) (assembled : IsAssembled (lowered c sel) routines c.slots c.placing slot_draw reg_draw o) where
  -- a slot by which a function is called, with where it goes back
  pub record GoesBack (k : ℕ) (slot : CodeAt → Slot) : Type 0 where
    pub back : CodeAt
    pub is_slot : slice_get o.slots k ≡ Some (slot back)
    pub ends : ends_from k 0 o.functions ≡ back ∷ []

  slot_at : (k : ℕ) (s : Slot0) → slice_get c.slots.slots k ≡ Some s → (t : Slot) × (slice_get o.slots k ≡ Some t) × IsSlotOf o.functions k s t
  slot_at k s there =
      let r = slots_at o.functions 0 c.slots.slots o.slots k s assembled.slots there in
      let number : 0 + k ≡ k = omega arith in
      (r.0, r.1, subst (λ n. IsSlotOf o.functions n s r.0) number r.2)

  pub call_at : (k g : ℕ) (site : Site) → slice_get c.slots.slots k ≡ Some (Slot0.Call g site) → GoesBack k (λ back. Slot.Call g back)
  call_at k g site there = let r = slot_at k (Slot0.Call g site) there in by r.0 r.1 r.2
    where
      by : (t : Slot) → slice_get o.slots k ≡ Some t → IsSlotOf o.functions k (Slot0.Call g site) t → GoesBack k (λ back. Slot.Call g back)
      by (Slot.Call f back) at is = record { back = back; is_slot = at ∙ ap (λ n. Some (Slot.Call n back)) is.0; ends = is.1 }
      by (Slot.Entry f) at is = absurd is
      by (Slot.Jump f) at is = absurd is
      by (Slot.Indirect back) at is = absurd is
      by (Slot.System back) at is = absurd is

  pub pointer_at : (k : ℕ) (site : Site) → slice_get c.slots.slots k ≡ Some (Slot0.Indirect site) → GoesBack k Slot.Indirect
  pointer_at k site there = let r = slot_at k (Slot0.Indirect site) there in by r.0 r.1 r.2
    where
      by : (t : Slot) → slice_get o.slots k ≡ Some t → IsSlotOf o.functions k (Slot0.Indirect site) t → GoesBack k Slot.Indirect
      by (Slot.Indirect back) at is = record { back = back; is_slot = at; ends = is }
      by (Slot.Call f back) at is = absurd is
      by (Slot.Entry f) at is = absurd is
      by (Slot.Jump f) at is = absurd is
      by (Slot.System back) at is = absurd is

  pub jump_at : (k f : ℕ) → slice_get c.slots.slots k ≡ Some (Slot0.Jump f) → slice_get o.slots k ≡ Some (Slot.Jump f)
  jump_at k f there = let r = slot_at k (Slot0.Jump f) there in by r.0 r.1 r.2
    where
      by : (t : Slot) → slice_get o.slots k ≡ Some t → IsSlotOf o.functions k (Slot0.Jump f) t → slice_get o.slots k ≡ Some (Slot.Jump f)
      by (Slot.Jump g) at is = at ∙ ap (λ n. Some (Slot.Jump n)) is
      by (Slot.Call g back) at is = absurd is
      by (Slot.Entry g) at is = absurd is
      by (Slot.Indirect back) at is = absurd is
      by (Slot.System back) at is = absurd is

  -- behind the jump to it
  pub way_back : (g : ℕ) (f : SelFun) (off k : ℕ) (rest : List Marked) (back : CodeAt) → slice_get sel.functions g ≡ Some f →
      Stands (function_row (making_of c g f) (suc (takens sel.taken) + calls_of_functions (take g sel.functions)) f) off (linked (instr.Jmp (pos 0)) k ∷ rest) →
      ends_from k 0 o.functions ≡ back ∷ [] → back ≡ (let e : CodeAt = record { function = g; offset = off + 5 } in e)
  way_back g f off k rest back there stands ends =
      way_of (function_row (making_of c g f) (suc (takens sel.taken) + calls_of_functions (take g sel.functions)) f) (lowered c sel) routines g off k rest back
      (lowered_there c sel g f there) stands (ap (ends_from k 0) (sym assembled.functions) ∙ ends)
