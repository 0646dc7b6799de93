-- What the slots of a program lead to is there, and the entry is the first of them and the only one.
use Rattle.std.proofs.Common.{◌≡◌, ℕ, zero, suc, ◌+◌, ◌<◌, ◌≤◌, Bool, true, false, not, nat_lt, if◌then◌else◌, List, [], ◌∷◌, ◌++◌, length, Some, None, slice_get, refl, ap, sym, subst, ◌∙◌, arith, inl}
use Rattle.std.specs.List.{All, flat_map}
use Rattle.std.proofs.lemmas.Bool.{lt-ltb, ne_eqb, and_from}
use Rattle.std.proofs.lemmas.List.Elements.{All-nil, All-append, All-head, All-tail}
use Rattle.x86_core.specs.declared.instr.Instr.{Instr}
use Rattle.low_core.specs.declared.sel.Which.TheVariants.{Putchar, Getchar, Exit, Memcpy, Memset, Trap}
use Rattle.low_core.specs.declared.sel.SelOp.{SelOp}
use Rattle.low_core.specs.declared.sel.SelOp.TheVariants.{Set, Copy, Alu, Div, Widen, Test, Pick, Load, Store, FrameAt, GlobalAt, FunctionAt, Call, CallAt, Outside}
use Rattle.low_core.specs.declared.sel.SelBlock.{SelBlock}
use Rattle.low_core.specs.declared.sel.SelFun.{SelFun}
use Rattle.low_core.specs.declared.sel.Sel.{Sel}
use Rattle.low_core.specs.SelParts.{ops_of}
use Rattle.low_core.specs.SelShaped.{IsOpShaped, IsBlockShaped, IsFunShaped, IsSel}
use Rattle.obj_core.specs.declared.object.CodeAt.{CodeAt}
use Rattle.obj_core.specs.declared.object.Func.{Func}
use Rattle.obj_core.specs.declared.object.Slot.{Slot}
use Rattle.obj_core.specs.declared.plan.Slot0.{Slot0}
use Rattle.obj_core.specs.Object.{Each}
use Rattle.obj_core.specs.WellFormed.{is_start, OfSlot, is_good_slot, is_entry, agrees_with, in_slots}
use Rattle.obj_rows.specs.Assembled.{ends_from, IsSlotOf, AreSlotsOf}
use Rattle.slot_plan.specs.Slots.{jumps_from, call_slot, calls_from, all_calls_from, routine_slots}
use Rattle.frame_lower.proofs.Keeping.{AllKeep, instructions, instructions_long, ways_start}
use Rattle.frame_lower.proofs.Members.{IsIn}
use Rattle.frame_lower.proofs.Ranged.{each_append}

-- a planned slot leads to one of so many functions, and is no entry
abbrev pub LeadsBelow : ℕ → Slot0 → Type 0
LeadsBelow count (Slot0.Entry target) = ⊥
LeadsBelow count (Slot0.Jump target) = target < count
LeadsBelow count (Slot0.Call target site) = target < count
LeadsBelow count (Slot0.Indirect site) = Unit {0}
LeadsBelow count (Slot0.System site) = Unit {0}

jumps_below : (most f : ℕ) (ts : List Bool) → f + length ts ≤ most → Each (LeadsBelow most) (jumps_from f ts)
jumps_below most f [] low = tt
jumps_below most f (true ∷ ts) low = ((omega (arith, low)), jumps_below most (suc f) ts (omega (arith, low)))
jumps_below most f (false ∷ ts) low = jumps_below most (suc f) ts (omega (arith, low))

get_inside : {X : Type 0} (xs : List X) (k : ℕ) (x : X) → slice_get xs k ≡ Some x → k < length xs
get_inside [] k x there = absurd cc
get_inside (y ∷ xs) zero x there = omega arith
get_inside (y ∷ xs) (suc k) x there = let r = get_inside xs k x there in omega (arith, r)

module _ (sel : Sel) where
  count : ℕ
  count = length sel.functions

  op_below : (fn : SelFun) (f n : ℕ) (op : SelOp) → IsOpShaped sel fn op → Each (LeadsBelow (length sel.functions + 6)) (call_slot (length sel.functions) f n op)
  op_below fn f n (Call g r args) h = let inside = get_inside sel.functions g h.fits.fn h.fits.stands in ((omega (arith, inside)), tt)
  op_below fn f n (CallAt s r args) h = (tt, tt)
  op_below fn f n (Outside Trap r args) h = tt
  op_below fn f n (Outside Putchar r args) h = ((omega arith), tt)
  op_below fn f n (Outside Getchar r args) h = ((omega arith), tt)
  op_below fn f n (Outside Exit r args) h = ((omega arith), tt)
  op_below fn f n (Outside Memcpy r args) h = ((omega arith), tt)
  op_below fn f n (Outside Memset r args) h = ((omega arith), tt)
  op_below fn f n (Set r k) h = tt
  op_below fn f n (Copy r s) h = tt
  op_below fn f n (Alu o w r s t) h = tt
  op_below fn f n (Div signed rest w r s t) h = tt
  op_below fn f n (Widen signed from to r s) h = tt
  op_below fn f n (Test p w r s t) h = tt
  op_below fn f n (Pick r c s t) h = tt
  op_below fn f n (Load w r s) h = tt
  op_below fn f n (Store w s t) h = tt
  op_below fn f n (FrameAt r at) h = tt
  op_below fn f n (GlobalAt r g) h = tt
  op_below fn f n (FunctionAt r g) h = tt

  ops_below : (fn : SelFun) (f n : ℕ) (ops : List SelOp) → All (IsOpShaped sel fn) ops → Each (LeadsBelow (length sel.functions + 6)) (calls_from (length sel.functions) f n ops)
  ops_below fn f n [] h = tt
  ops_below fn f n (op ∷ ops) h =
      let here = call_slot (length sel.functions) f n op in
      each_append (LeadsBelow (length sel.functions + 6)) here (calls_from (length sel.functions) f (n + length here) ops)
      (op_below fn f n op (All-head (IsOpShaped sel fn) op ops h)) (ops_below fn f (n + length here) ops (All-tail (IsOpShaped sel fn) op ops h))

  all_ops : (fn : SelFun) (bs : List SelBlock) → All (IsBlockShaped sel fn) bs → All (IsOpShaped sel fn) (flat_map (λ (b : SelBlock). b.ops) bs)
  all_ops fn [] h = All-nil (IsOpShaped sel fn)
  all_ops fn (b ∷ bs) h =
      All-append (IsOpShaped sel fn) b.ops (flat_map (λ (c : SelBlock). c.ops) bs) (All-head (IsBlockShaped sel fn) b bs h).ops (all_ops fn bs (All-tail (IsBlockShaped sel fn) b bs h))

  functions_below : (f : ℕ) (fs : List SelFun) → All (IsFunShaped sel) fs → Each (LeadsBelow (length sel.functions + 6)) (all_calls_from (length sel.functions) f fs)
  functions_below f [] h = tt
  functions_below f (fn ∷ fs) h =
      each_append (LeadsBelow (length sel.functions + 6)) (calls_from (length sel.functions) f 0 (ops_of fn)) (all_calls_from (length sel.functions) (suc f) fs)
      (ops_below fn f 0 (ops_of fn) (all_ops fn fn.blocks (All-head (IsFunShaped sel) fn fs h).blocks)) (functions_below (suc f) fs (All-tail (IsFunShaped sel) fn fs h))

  -- all slots but the entry
  pub others_below : IsSel sel → Each (LeadsBelow (length sel.functions + 6)) (jumps_from 0 sel.taken ++ (all_calls_from (length sel.functions) 0 sel.functions ++ routine_slots (length sel.functions) sel.main))
  others_below shaped =
      let told = shaped.told in
      let main = get_inside sel.functions sel.main shaped.main_fun shaped.main_stands in
      let most : ℕ = length sel.functions + 6 in
      each_append (LeadsBelow most) (jumps_from 0 sel.taken) (all_calls_from (length sel.functions) 0 sel.functions ++ routine_slots (length sel.functions) sel.main)
      (jumps_below most 0 sel.taken (omega (arith, told)))
      (each_append (LeadsBelow most) (all_calls_from (length sel.functions) 0 sel.functions) (routine_slots (length sel.functions) sel.main) (functions_below 0 sel.functions shaped.functions)
      ((omega (arith, main)), (tt, (tt, (tt, (tt, tt))))))

module _ (reg_seed slots : ℕ) (fs : List Func) (all : AllKeep reg_seed slots 0 fs) where
  abbrev code : List (List Instr)
  code = instructions reg_seed slots 0 fs all

  back_starts : (k : ℕ) (back : CodeAt) → ends_from k 0 fs ≡ back ∷ [] → is_start code back ≡ true
  back_starts k back ends = ways_start reg_seed slots k fs all back (subst (IsIn back) (sym ends) (inl refl))

  goal_inside : (target : ℕ) → target < length fs → nat_lt target (length code) ≡ true
  goal_inside target below = let long = instructions_long reg_seed slots 0 fs all in lt-ltb target (length code) (omega (arith, below, long))

  -- a slot of a planned one is good, and is no entry
  slot_good : (k : ℕ) (s : Slot0) (t : Slot) → LeadsBelow (length fs) s → IsSlotOf fs k s t → (is_good_slot code t ≡ true) × (is_entry t ≡ false)
  slot_good k (Slot0.Entry target) t below is = absurd below
  slot_good k (Slot0.Jump target) (Slot.Jump f) below is = (ap (λ n. nat_lt n (length code)) is ∙ goal_inside target below, refl)
  slot_good k (Slot0.Jump target) (Slot.Entry f) below is = absurd is
  slot_good k (Slot0.Jump target) (Slot.Call f back) below is = absurd is
  slot_good k (Slot0.Jump target) (Slot.Indirect back) below is = absurd is
  slot_good k (Slot0.Jump target) (Slot.System back) below is = absurd is
  slot_good k (Slot0.Call target site) (Slot.Call f back) below is =
      (and_from (nat_lt f (length code)) (is_start code back) (ap (λ n. nat_lt n (length code)) is.0 ∙ goal_inside target below) (back_starts k back is.1), refl)
  slot_good k (Slot0.Call target site) (Slot.Entry f) below is = absurd is
  slot_good k (Slot0.Call target site) (Slot.Jump f) below is = absurd is
  slot_good k (Slot0.Call target site) (Slot.Indirect back) below is = absurd is
  slot_good k (Slot0.Call target site) (Slot.System back) below is = absurd is
  slot_good k (Slot0.Indirect site) (Slot.Indirect back) below is = (back_starts k back is, refl)
  slot_good k (Slot0.Indirect site) (Slot.Entry f) below is = absurd is
  slot_good k (Slot0.Indirect site) (Slot.Jump f) below is = absurd is
  slot_good k (Slot0.Indirect site) (Slot.Call f back) below is = absurd is
  slot_good k (Slot0.Indirect site) (Slot.System back) below is = absurd is
  slot_good k (Slot0.System site) (Slot.System back) below is = (back_starts k back is, refl)
  slot_good k (Slot0.System site) (Slot.Entry f) below is = absurd is
  slot_good k (Slot0.System site) (Slot.Jump f) below is = absurd is
  slot_good k (Slot0.System site) (Slot.Call f back) below is = absurd is
  slot_good k (Slot0.System site) (Slot.Indirect back) below is = absurd is

  -- rules 6 and 7 of the slots behind the entry
  pub slots_good : (k : ℕ) (ps : List Slot0) (ts : List Slot) → 1 ≤ k → Each (LeadsBelow (length fs)) ps → AreSlotsOf fs k ps ts →
      (in_slots 6 (λ j s. is_good_slot code s) k ts ≡ None) × (in_slots 7 agrees_with k ts ≡ None)
  slots_good k [] [] some below are = (refl, refl)
  slots_good k [] (t ∷ ts) some below are = absurd are
  slots_good k (p ∷ ps) [] some below are = absurd are
  slots_good k (p ∷ ps) (t ∷ ts) some below are =
      let here = slot_good k p t below.0 are.0 in
      let one : suc k ≡ k + 1 = omega arith in
      let rest = slots_good (k + 1) ps ts (omega arith) below.1 (subst (λ n. AreSlotsOf fs n ps ts) one are.1) in
      let agrees : agrees_with k t ≡ true = agree k some here.1 in (
        ap (λ b. if b then in_slots 6 (λ j s. is_good_slot code s) (k + 1) ts else Some (record { rule = 6; spot = OfSlot k; offset = 0 })) here.0 ∙ rest.0,
        ap (λ b. if b then in_slots 7 agrees_with (k + 1) ts else Some (record { rule = 7; spot = OfSlot k; offset = 0 })) agrees ∙ rest.1,
      )
    where
      agree : (n : ℕ) → 1 ≤ n → is_entry t ≡ false → agrees_with n t ≡ true
      agree n some none =
          ap (λ b. if b then is_entry t else not (is_entry t)) (ne_eqb n 0 (λ e. omega (arith, some, e))) ∙ ap not none

  -- and of all slots
  pub all_slots_good : (target : ℕ) (ps : List Slot0) (ts : List Slot) → target < length fs → Each (LeadsBelow (length fs)) ps → AreSlotsOf fs 0 (Slot0.Entry target ∷ ps) ts →
      (in_slots 6 (λ j s. is_good_slot code s) 0 ts ≡ None) × (in_slots 7 agrees_with 0 ts ≡ None)
  all_slots_good target ps [] low below are = absurd are
  all_slots_good target ps (Slot.Entry f ∷ ts) low below are =
      let rest = slots_good 1 ps ts (omega arith) below are.1 in
      let good : nat_lt f (length code) ≡ true = ap (λ n. nat_lt n (length code)) are.0 ∙ goal_inside target low in
      (ap (λ b. if b then in_slots 6 (λ j s. is_good_slot code s) 1 ts else Some (record { rule = 6; spot = OfSlot 0; offset = 0 })) good ∙ rest.0, rest.1)
  all_slots_good target ps (Slot.Jump f ∷ ts) low below are = absurd are.0
  all_slots_good target ps (Slot.Call f back ∷ ts) low below are = absurd are.0
  all_slots_good target ps (Slot.Indirect back ∷ ts) low below are = absurd are.0
  all_slots_good target ps (Slot.System back ∷ ts) low below are = absurd are.0
