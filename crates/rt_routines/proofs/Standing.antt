-- In an object that is put together of a program, the routines, and a plan's slots, the routines do what they should.
use Rattle.std.proofs.Common.{◌≡◌, ℕ, zero, suc, ◌+◌, ◌-◌, ◌≤◌, List, [], ◌∷◌, ◌++◌, length, Some, slice_get, refl, ap, sym, subst, ◌∙◌, arith, append_assoc}
use Rattle.ir_core.specs.declared.TheConstants.{MAX_CALLS}
use Rattle.low_core.specs.declared.sel.Sel.{Sel}
use Rattle.low_core.specs.SelShaped.{IsSel}
use Rattle.obj_core.specs.declared.object.Object.{Object}
use Rattle.obj_core.specs.declared.object.Func.{Func}
use Rattle.obj_core.specs.declared.object.Slot.{Slot}
use Rattle.obj_core.specs.declared.object.CodeAt.{CodeAt}
use Rattle.obj_core.specs.declared.plan.Site.{Site}
use Rattle.obj_core.specs.declared.plan.Slot0.{Slot0}
use Rattle.obj_core.specs.declared.plan.SlotPlan.{SlotPlan}
use Rattle.obj_core.specs.declared.plan.Placing.{Placing}
use Rattle.obj_core.specs.WellFormed.{most_data}
use Rattle.obj_rows.specs.Marked.{Marked, IsRow, IsFunction}
use Rattle.obj_rows.specs.Assembled.{most_cuts, with_first_cuts, ends_in, ends_from, IsSlotOf, AreSlotsOf, IsAssembled}
use Rattle.obj_rows.specs.Routines.{AreRoutines}
use Rattle.slot_plan.specs.Slots.{routine_slots, slots_of, IsPlan}
use Rattle.slot_plan.proofs.Bounds.{bounds}
use Rattle.slot_plan.proofs.Places.{behind}
use Rattle.rt_routines.specs.Code.{start_row, function_of, routine_functions, routines_of}
use Rattle.rt_routines.proofs.Sites.{own_there}
use Rattle.rt_routines.proofs.Linked.{call_end, last_end, putchar_end, getchar_end, exit_end}
use Rattle.rt_routines.proofs.Sound.{start_spelled, putchar_spelled, getchar_spelled, exit_spelled, memcpy_spelled, memset_spelled}
use Rattle.rt_routines.proofs.Start.{is_start}
use Rattle.rt_routines.proofs.Putchar.{is_putchar}
use Rattle.rt_routines.proofs.Getchar.{is_getchar}
use Rattle.rt_routines.proofs.Exit.{is_exit}
use Rattle.rt_routines.proofs.Memcpy.{is_memcpy}
use Rattle.rt_routines.proofs.Memset.{is_memset}

-- cuts leave as many functions
cut_long : (most : ℕ) (fs : List Func) → length (with_first_cuts most fs) ≡ length fs
cut_long most [] = refl
cut_long most (f ∷ fs) = ap suc (cut_long (most - length f.cuts) fs)

-- ends in functions, and in those behind them
ends_append : (k n : ℕ) (fs gs : List Func) → ends_from k n (fs ++ gs) ≡ ends_from k n fs ++ ends_from k (n + length fs) gs
ends_append k n [] gs = ap (λ m. ends_from k m gs) (let e : n ≡ n + 0 = omega arith in e)
ends_append k n (f ∷ fs) gs =
    let number : suc n + length fs ≡ n + suc (length fs) = omega arith in
    ap (λ l. ends_in k n f.links ++ l) (ends_append k (suc n) fs gs ∙ ap (λ m. ends_from k (suc n) fs ++ ends_from k m gs) number)
    ∙ sym (append_assoc (ends_in k n f.links) (ends_from k (suc n) fs) (ends_from k (n + suc (length fs)) gs))

-- the last one of a list of one
only_last : (xs : List CodeAt) (e back : CodeAt) → xs ++ e ∷ [] ≡ back ∷ [] → back ≡ e
only_last [] e back same = cc
only_last (x ∷ []) e back same = absurd cc
only_last (x ∷ y ∷ xs) e back same = absurd cc

-- a planned slot is a slot of the object
slots_at : (fs : List Func) (first : ℕ) (planned : List Slot0) (slots : List Slot) (k : ℕ) (s : Slot0) → AreSlotsOf fs first planned slots → slice_get planned k ≡ Some s →
    (t : Slot) × (slice_get slots k ≡ Some t) × IsSlotOf fs (first + k) s t
slots_at fs first [] slots k s are there = absurd cc
slots_at fs first (p ∷ ps) [] k s are there = absurd are
slots_at fs first (p ∷ ps) (t ∷ ts) zero s are there =
    let same : p ≡ s = cc in
    let number : first ≡ first + 0 = omega arith in
    (t, refl, subst (λ n. IsSlotOf fs n s t) number (subst (λ x. IsSlotOf fs first x t) same are.0))
slots_at fs first (p ∷ ps) (t ∷ ts) (suc k) s are there =
    let r = slots_at fs (suc first) ps ts k s are.1 there in
    let number : suc first + k ≡ first + suc k = omega arith in
    (r.0, r.1, subst (λ n. IsSlotOf fs n s r.0) number r.2)

slots_long : (fs : List Func) (first : ℕ) (planned : List Slot0) (slots : List Slot) → AreSlotsOf fs first planned slots → length slots ≡ length planned
slots_long fs first [] [] are = refl
slots_long fs first [] (t ∷ ts) are = absurd are
slots_long fs first (p ∷ ps) [] are = absurd are
slots_long fs first (p ∷ ps) (t ∷ ts) are = ap suc (slots_long fs (suc first) ps ts are.1)

module _ (sel : Sel) (shaped : IsSel sel) (slot_draw : ℕ) (plan : SlotPlan) (planned : IsPlan sel slot_draw plan) (funcs : List Func) (long : length funcs ≡ length sel.functions) (placing : Placing) (reg_draw : ℕ) (o : Object)
    (assembled : IsAssembled funcs (routines_of plan) plan placing slot_draw reg_draw o) where
  abbrev count : ℕ
  count = length sel.functions

  -- the first slot of the routines
  abbrev first : ℕ
  first = length (slots_of sel) - 5

  abbrev program : List Func
  program = with_first_cuts most_cuts funcs

  program_long : length program ≡ count
  program_long = cut_long most_cuts funcs ∙ long

  functions_are : o.functions ≡ program ++ routine_functions first
  unfolding routines_of
  functions_are = assembled.functions ∙ ap (λ (ss : List Slot0). program ++ routine_functions (length ss - 5)) planned.slots

  -- a routine is a function of the object
  routine_there : (j : ℕ) (row : List Marked) → slice_get (routine_functions first) j ≡ Some (function_of row) → IsRow row → IsFunction o (count + j) row
  routine_there j row at is_row = record {
    function = function_of row;
    there = ap (λ (fs : List Func). slice_get fs (count + j)) functions_are ∙ ap (λ n. slice_get (program ++ routine_functions first) (n + j)) (sym program_long) ∙ behind program (routine_functions first) j ∙ at;
    bytes = refl;
    links = refl;
    is_row = is_row;
  }

  planned_slot : (k : ℕ) (s : Slot0) → slice_get (slots_of sel) k ≡ Some s → (t : Slot) × (slice_get o.slots k ≡ Some t) × IsSlotOf o.functions k s t
  planned_slot k s there =
      let r = slots_at o.functions 0 plan.slots o.slots k s assembled.slots (ap (λ (ss : List Slot0). slice_get ss k) planned.slots ∙ there) in
      let number : 0 + k ≡ k = omega arith in
      (r.0, r.1, subst (λ n. IsSlotOf o.functions n s r.0) number r.2)

  -- the way back of a slot whose one jump is in the routines
  back_is : (k : ℕ) (e back : CodeAt) → ends_from k count (routine_functions first) ≡ e ∷ [] → ends_from k 0 o.functions ≡ back ∷ [] → back ≡ e
  back_is k e back own ends =
      let number : 0 + length program ≡ count = let l = program_long in omega (arith, l) in
      let parts : ends_from k 0 o.functions ≡ ends_from k 0 program ++ e ∷ [] =
      ap (λ (fs : List Func). ends_from k 0 fs) functions_are ∙ ends_append k 0 program (routine_functions first) ∙ ap (λ n. ends_from k 0 program ++ ends_from k n (routine_functions first)) number
      ∙ ap (λ (es : List CodeAt). ends_from k 0 program ++ es) own in
      only_last (ends_from k 0 program) e back (sym parts ∙ ends)

  system_there : (j : ℕ) (site : Site) (e : CodeAt) → slice_get (routine_slots count sel.main) j ≡ Some (Slot0.System site) → ends_from (first + j) count (routine_functions first) ≡ e ∷ [] →
      slice_get o.slots (first + j) ≡ Some (Slot.System e)
  system_there j site e at own = let r = planned_slot (first + j) (Slot0.System site) (own_there sel j ∙ at) in by r.0 r.1 r.2
    where
      by : (t : Slot) → slice_get o.slots (first + j) ≡ Some t → IsSlotOf o.functions (first + j) (Slot0.System site) t → slice_get o.slots (first + j) ≡ Some (Slot.System e)
      by (Slot.System back) there is = there ∙ ap (λ (b : CodeAt). Some (Slot.System b)) (back_is (first + j) e back own is)
      by (Slot.Call f back) there is = absurd is
      by (Slot.Entry f) there is = absurd is
      by (Slot.Jump f) there is = absurd is
      by (Slot.Indirect back) there is = absurd is

  call_there : slice_get o.slots first ≡ Some (Slot.Call sel.main (record { function = count; offset = 21 }))
  call_there =
      let number : first ≡ first + 0 = omega arith in
      let site : Site = record { function = count; number = 0 } in
      let r = planned_slot first (Slot0.Call sel.main site) (ap (slice_get (slots_of sel)) number ∙ own_there sel 0) in
      by site r.0 r.1 r.2
    where
      by : (site : Site) (t : Slot) → slice_get o.slots first ≡ Some t → IsSlotOf o.functions first (Slot0.Call sel.main site) t → slice_get o.slots first ≡ Some (Slot.Call sel.main (record { function = count; offset = 21 }))
      by site (Slot.Call f back) there is =
          there ∙ ap (λ n. Some (Slot.Call n back)) is.0 ∙ ap (λ (b : CodeAt). Some (Slot.Call sel.main b)) (back_is first (record { function = count; offset = 21 }) back (call_end first count first refl) is.1)
      by site (Slot.System back) there is = absurd is
      by site (Slot.Entry f) there is = absurd is
      by site (Slot.Jump f) there is = absurd is
      by site (Slot.Indirect back) there is = absurd is

  entry_there : slice_get o.slots 0 ≡ Some (Slot.Entry count)
  entry_there = let r = planned_slot 0 (Slot0.Entry count) refl in by r.0 r.1 r.2
    where
      by : (t : Slot) → slice_get o.slots 0 ≡ Some t → IsSlotOf o.functions 0 (Slot0.Entry count) t → slice_get o.slots 0 ≡ Some (Slot.Entry count)
      by (Slot.Entry f) there is = there ∙ ap (λ n. Some (Slot.Entry n)) is
      by (Slot.System back) there is = absurd is
      by (Slot.Call f back) there is = absurd is
      by (Slot.Jump f) there is = absurd is
      by (Slot.Indirect back) there is = absurd is

  slots_few : length o.slots ≤ 1048576
  slots_few =
      let same : length o.slots ≡ length (slots_of sel) = slots_long o.functions 0 plan.slots o.slots assembled.slots ∙ ap (λ (ss : List Slot0). length ss) planned.slots in
      let few = (bounds sel shaped).slots in
      omega (arith, same, few)

  -- with the numbers that laws give them
  function_named : (n m : ℕ) (row : List Marked) → n ≡ m → IsFunction o n row → IsFunction o m row
  function_named n m row e is = subst (λ k. IsFunction o k row) e is

  pub are_routines : length o.ro + length o.rw ≤ most_data → AreRoutines o count sel.main MAX_CALLS
  are_routines data_few =
      let last : slice_get o.slots (first + 1) ≡ Some (Slot.System (record { function = count; offset = 34 })) = system_there 1 _ _ refl (last_end (first + 1) count first refl) in
      let one : suc count ≡ count + 1 = omega arith in
      let two : suc (suc count) ≡ count + 2 = omega arith in
      let three : suc (suc (suc count)) ≡ count + 3 = omega arith in
      let none : count + 0 ≡ count = omega arith in
      record {
        start = λ input.
            is_start o count sel.main first (first + 1) (function_named (count + 0) count (start_row first (first + 1)) none (routine_there 0 _ refl (start_spelled first (first + 1)))) entry_there call_there last slots_few data_few input;
        putchar =
            is_putchar o (count + 1) (first + 2) (routine_there 1 _ refl (putchar_spelled (first + 2)))
            (system_there 2 _ _ refl (putchar_end (first + 2) count first refl) ∙ ap (λ n. Some (Slot.System (record { function = n; offset = 36 }))) one);
        getchar =
            is_getchar o (count + 2) (first + 3) (routine_there 2 _ refl (getchar_spelled (first + 3)))
            (system_there 3 _ _ refl (getchar_end (first + 3) count first refl) ∙ ap (λ n. Some (Slot.System (record { function = n; offset = 28 }))) two);
        exit =
            is_exit o (count + 3) (first + 4) (routine_there 3 _ refl (exit_spelled (first + 4)))
            (system_there 4 _ _ refl (exit_end (first + 4) count first refl) ∙ ap (λ n. Some (Slot.System (record { function = n; offset = 10 }))) three);
        memcpy = is_memcpy o (count + 4) (routine_there 4 _ refl memcpy_spelled);
        memset = is_memset o (count + 5) (routine_there 5 _ refl memset_spelled);
      }
