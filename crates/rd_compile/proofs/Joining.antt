-- Functions, routines, slots and data put together are an object of the program.
use Rattle.std.proofs.Common.{◌≡◌, ℕ, ◌+◌, ◌<◌, ◌^◌, List, ◌++◌, length, ap, sym, subst, ◌∙◌, arith}
use Rattle.std.specs.Prelude.{Result, Ok, Err, IfOk}
use Rattle.rd_num.specs.declared.width.NoMemory.{NoMemory}
use Rattle.rd_draw.specs.Draw.{keystream_word, shuffled}
use Rattle.low_core.specs.declared.sel.Sel.{Sel}
use Rattle.obj_core.specs.declared.object.Func.{Func}
use Rattle.obj_core.specs.declared.object.Object.{Object}
use Rattle.obj_core.specs.declared.plan.Placing.{Placing}
use Rattle.obj_core.specs.declared.plan.Slot0.{Slot0}
use Rattle.obj_core.specs.declared.plan.SlotPlan.{SlotPlan}
use Rattle.obj_core.specs.Slots.{slot_purpose, positions}
use Rattle.obj_rows.specs.Assembled.{most_cuts, with_first_cuts, AreSlotsOf, IsAssembled}
use Rattle.obj_assemble.specs.Linked.{AreLinked}
use Rattle.slot_plan.specs.Slots.{slots_of}
use Rattle.rt_routines.specs.Code.{routines_of}
use Rattle.frame_lower.specs.Functions.{lowered}
use Rattle.frame_lower.specs.Given.{AreChosen}
use Rattle.frame_lower.proofs.Totals.{slots_long}
use Rattle.rd_compile.specs.Passed.{choices_of}
use Rattle.rd_compile.proofs.Linking.{are_linked, few_functions}

module _ (sel : Sel) (slot_seed reg_seed : ℕ) (slots : SlotPlan) (placing : Placing) (functions routines : List Func) (chosen : AreChosen (choices_of sel reg_seed slots placing) sel slot_seed)
    (functions_are : functions ≡ with_first_cuts most_cuts (lowered (choices_of sel reg_seed slots placing) sel)) (routines_are : routines ≡ routines_of slots) where
  both_are : functions ++ routines ≡ with_first_cuts most_cuts (lowered (choices_of sel reg_seed slots placing) sel) ++ routines_of slots
  both_are = ap (λ fs. fs ++ routines) functions_are ∙ ap (λ rs. with_first_cuts most_cuts (lowered (choices_of sel reg_seed slots placing) sel) ++ rs) routines_are

  pub linked_seen : AreLinked (functions ++ routines) slots.slots
  linked_seen = subst (λ fs. AreLinked fs slots.slots) (sym both_are) (are_linked (choices_of sel reg_seed slots placing) sel slot_seed chosen)

  pub few_seen : length functions + length routines < 2 ^ 32
  few_seen =
      let few = few_functions (choices_of sel reg_seed slots placing) sel slot_seed chosen in
      let a = ap (λ (fs : List Func). length fs) functions_are in
      let b = ap (λ (fs : List Func). length fs) routines_are in
      omega (arith, few, a, b)

  -- slots stand where they are planned
  places : (o : Object) → AreSlotsOf o.functions 0 slots.slots o.slots → o.slot_seed ≡ slot_seed → slots.positions ≡ positions o
  unfolding positions
  places o are seed =
      let long : length o.slots ≡ length (slots_of sel) = slots_long o.functions 0 slots.slots o.slots are ∙ ap (λ (ss : List Slot0). length ss) chosen.plan.slots in
      chosen.plan.positions ∙ ap (λ s. shuffled (keystream_word s slot_purpose 0) (length (slots_of sel))) (sym seed)
      ∙ ap (λ n. shuffled (keystream_word o.slot_seed slot_purpose 0) n) (sym long)

  pub assembled : (r : Result Object NoMemory) → IfOk r (λ o. o.functions ≡ functions ++ routines) → IfOk r (λ o. AreSlotsOf o.functions 0 slots.slots o.slots) → IfOk r (λ o. o.ro ≡ placing.ro) →
      IfOk r (λ o. o.rw ≡ placing.rw) → IfOk r (λ o. o.slot_seed ≡ slot_seed) → IfOk r (λ o. o.reg_seed ≡ reg_seed) →
      IfOk r (λ o. IsAssembled (lowered (choices_of sel reg_seed slots placing) sel) (routines_of slots) slots placing slot_seed reg_seed o)
  assembled (Err e) a b d f g h = tt
  assembled (Ok o) a b d f g h = record { functions = a ∙ both_are; slots = b; places = places o b g; ro = d; rw = f; slot_seed = g; reg_seed = h }
