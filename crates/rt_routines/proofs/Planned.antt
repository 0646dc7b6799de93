-- The routines of a plan: six sound functions, linked once to each slot of theirs and to no other.
use Rattle.std.proofs.Common.{◌≡◌, ℕ, suc, ◌+◌, ◌-◌, ◌<◌, ◌≤◌, ◌^◌, Bool, true, false, List, [], ◌∷◌, length, Some, slice_get, refl, ap, sym, subst, ◌∙◌, arith, lit≤}
use Rattle.low_core.specs.declared.sel.Sel.{Sel}
use Rattle.low_core.specs.SelShaped.{IsSel}
use Rattle.obj_core.specs.declared.object.Func.{Func}
use Rattle.obj_core.specs.declared.object.Link.{Link}
use Rattle.obj_core.specs.declared.plan.Slot0.{Slot0}
use Rattle.obj_core.specs.declared.plan.SlotPlan.{SlotPlan}
use Rattle.obj_core.specs.Object.{Each}
use Rattle.obj_rows.specs.Assembled.{LinkOnce}
use Rattle.obj_rows.specs.Sound.{IsSoundFunction, AreSound}
use Rattle.slot_plan.specs.Slots.{slots_of, pointers_from, IsPlan}
use Rattle.slot_plan.proofs.Bounds.{bounds}
use Rattle.rt_routines.specs.Code.{routine_functions, routines_of}
use Rattle.rt_routines.proofs.Sites.{six_or_more}
use Rattle.rt_routines.proofs.Linked.{links_low, linked_once}
use Rattle.rt_routines.proofs.Sound.{start_sound, putchar_sound, getchar_sound, exit_sound, memcpy_sound, memset_sound}

pointers_long : (positions : List ℕ) (k : ℕ) (ts : List Bool) → length (pointers_from positions k ts) ≡ length ts
pointers_long positions k [] = refl
pointers_long positions k (true ∷ ts) = ap suc (pointers_long positions (suc k) ts)
pointers_long positions k (false ∷ ts) = ap suc (pointers_long positions k ts)

-- where there are six slots or more, the routines of the last five are sound
each_sound : (count : ℕ) → 6 ≤ count → count < 2 ^ 32 → Each (IsSoundFunction count) (routine_functions (count - 5))
each_sound count some few =
    let first : ℕ = count - 5 in
    let start = start_sound count few first (first + 1) (omega (arith, some)) (omega (arith, some)) in
    let putchar = putchar_sound count few (first + 2) (omega (arith, some)) in
    let getchar = getchar_sound count few (first + 3) (omega (arith, some)) in
    let exit = exit_sound count few (first + 4) (omega (arith, some)) in
    (start, (putchar, (getchar, (exit, (memcpy_sound count few, (memset_sound count few, tt))))))

module _ (sel : Sel) (shaped : IsSel sel) (slot_draw : ℕ) (plan : SlotPlan) (planned : IsPlan sel slot_draw plan) where
  -- a pointer for each function
  pub pointers_are : length plan.pointers ≡ length sel.functions
  pointers_are = ap length planned.pointers ∙ pointers_long plan.positions 1 sel.taken ∙ shaped.told

  slots_are : length plan.slots ≡ length (slots_of sel)
  slots_are = ap (λ (ss : List Slot0). length ss) planned.slots

  pub some_slots : 6 ≤ length plan.slots
  some_slots = let same = slots_are in let some = six_or_more sel in omega (arith, same, some)

  pub few_slots : length plan.slots < 2 ^ 20
  few_slots = let same = slots_are in let few = (bounds sel shaped).slots in omega (arith, same, few)

  pub are_sound : AreSound (routines_of plan) plan
  unfolding routines_of
  are_sound =
      let some = some_slots in
      let few = few_slots in
      record {
        six = refl;
        each = each_sound (length plan.slots) some (omega (arith, few));
        few = lit≤ tt;
        entry = ap (λ (ss : List Slot0). slice_get ss 0) planned.slots ∙ ap (λ n. Some (Slot0.Entry n)) (sym pointers_are);
      }

  pub link_once : LinkOnce (length plan.pointers) (routines_of plan) plan.slots
  unfolding routines_of
  link_once =
      subst (λ (ss : List Slot0). LinkOnce (length plan.pointers) (routine_functions (length ss - 5)) ss) (sym planned.slots)
      (subst (λ n. LinkOnce n (routine_functions (length (slots_of sel) - 5)) (slots_of sel)) (sym pointers_are) (linked_once sel))

-- there are six
pub six : (plan : SlotPlan) → length (routines_of plan) ≡ 6
unfolding routines_of
six plan = refl

-- each link ends in range
pub links_end : (plan : SlotPlan) → Each (λ (f : Func). Each (λ (l : Link). l.at + 4 < 2 ^ 32) f.links) (routines_of plan)
unfolding routines_of
links_end plan = links_low (length plan.slots - 5)
