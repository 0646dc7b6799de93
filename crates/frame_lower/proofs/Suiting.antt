-- An object that is put together of a program's functions suits the program, where each register lives in a word of its own.
use Rattle.std.proofs.Common.{◌≡◌, ℕ, zero, suc, ◌+◌, ◌-◌, ◌*◌, ◌≤◌, List, [], ◌∷◌, ◌++◌, length, map, get_or, take, Some, pos, slice_get, slice_index, refl, ap, sym, subst, ◌∙◌, arith}
use Rattle.ir_core.specs.declared.TheConstants.{MAX_CALLS}
use Rattle.ir_core.specs.declared.limit.TheConstants.{MAX_CODE}
use Rattle.x86_core.specs.declared.instr.Instr.TheVariants.{Jmp}
use Rattle.x86_core.specs.Data.{stack_end}
use Rattle.low_core.specs.declared.sel.Home.{Home}
use Rattle.low_core.specs.declared.sel.Which.TheVariants.{Putchar, Getchar, Exit, Memcpy, Memset, Trap}
use Rattle.low_core.specs.declared.sel.SelBlock.{SelBlock}
use Rattle.low_core.specs.declared.sel.SelFun.{SelFun}
use Rattle.low_core.specs.declared.sel.SelOp.{SelOp}
use Rattle.low_core.specs.declared.sel.SelOp.TheVariants.{Set, Copy, Alu, Div, Widen, Test, Pick, Load, Store, FrameAt, GlobalAt, FunctionAt, Call, CallAt, Outside}
use Rattle.low_core.specs.declared.sel.Sel.{Sel}
use Rattle.low_core.specs.Plan.{Content, PlanFits, IsTaken, global_spans, first_bytes}
use Rattle.low_core.specs.SelShaped.{IsFunShaped}
use Rattle.low_core.specs.SelWeights.{words_passed, sel_function_weight}
use Rattle.frame_rows.specs.Ties.{Contains}
use Rattle.obj_core.specs.declared.address.SlotAddr.{SlotAddr}
use Rattle.obj_core.specs.declared.object.Func.{Func}
use Rattle.obj_core.specs.declared.object.Object.{Object}
use Rattle.obj_core.specs.declared.object.Place.{Place}
use Rattle.obj_core.specs.declared.object.Slot.{Slot}
use Rattle.obj_core.specs.declared.plan.Slot0.{Slot0}
use Rattle.obj_core.specs.Slots.{slot_base}
use Rattle.obj_core.specs.SymbolicMachine.{at_code}
use Rattle.obj_core.specs.WellFormed.{most_data}
use Rattle.obj_rows.specs.Assembled.{most_cuts, with_first_cuts, IsAssembled}
use Rattle.obj_rows.specs.Marked.{Marked, linked, Stands, IsFunction}
use Rattle.obj_rows.specs.Routines.{AreRoutines}
use Rattle.obj_rows.specs.Standing.{first_core}
use Rattle.slot_plan.specs.Slots.{slots_of, address_of, takens}
use Rattle.slot_plan.proofs.Bounds.{bounds}
use Rattle.slot_plan.proofs.Places.{in_front, HasSlot as HasPlanned, slot_there}
use Rattle.slot_plan.proofs.Taken.{place_of, pointer_is, jump_is}
use Rattle.frame_lower.specs.Blocks.{calls_in, calls_of_blocks}
use Rattle.frame_lower.specs.Chain.{no_function, function_in, first_slot, slot_behind, code_in}
use Rattle.frame_lower.specs.Frames.{frame_plan}
use Rattle.frame_lower.specs.Functions.{Choices, lowered, making_of, saved_function, slot_number}
use Rattle.frame_lower.specs.Given.{HavePlaces, AreChosen, calls_of_functions}
use Rattle.frame_lower.specs.Planned.{frames_of, plan_of, HasOwn, HaveOwn}
use Rattle.frame_lower.specs.Rows.{Making}
use Rattle.frame_lower.specs.Suits.{GoesBackTo, HasSlot, IsPointer, Suits}
use Rattle.std.specs.List.{sum_by}
use Rattle.std.proofs.lemmas.List.Sums.{sum_by-cons}
use Rattle.obj_core.specs.declared.plan.Site.{Site}
use Rattle.obj_core.specs.Slots.{push_purpose}
use Rattle.obj_rows.specs.Marked.{IsRow}
use Rattle.obj_rows.proofs.Start.{starts_with_stack}
use Rattle.slot_plan.proofs.Bounds.{slots_long}
use Rattle.frame_lower.specs.Alive.{Allotted}
use Rattle.frame_lower.proofs.Chosen.{five_long, in_frame_of, inside, whole}
use Rattle.frame_lower.proofs.Order.{drawn_all}
use Rattle.frame_lower.proofs.Programs.{calls_more}
use Rattle.frame_lower.proofs.Ranged.{IsRanged, function_ranged}
use Rattle.frame_lower.proofs.Sizes.{function_light}
use Rattle.frame_lower.proofs.Totals.{slots_long as slots_number}
use Rattle.frame_lower.proofs.LinkedOnce.{lowered_there, call_at, pointer_at, jump_at, way_back}
use Rattle.frame_lower.proofs.Stage.{function_is}
use Rattle.frame_lower.proofs.Suited.{live_all, behind_passed, allotted, all_there}

-- a function with some of its cuts has the same bytes and links
cut_there : (count : ℕ) (fs : List Func) (g : ℕ) (f : Func) → slice_get fs g ≡ Some f → (h : Func) × (slice_get (with_first_cuts count fs) g ≡ Some h) × (h.bytes ≡ f.bytes) × (h.links ≡ f.links)
cut_there count [] g f there = absurd cc
cut_there count (h ∷ fs) zero f there = let same : h ≡ f = cc in (record h { cuts = take count h.cuts }, refl, ap (λ (x : Func). x.bytes) same, ap (λ (x : Func). x.links) same)
cut_there count (h ∷ fs) (suc g) f there = cut_there (count - length h.cuts) fs g f there

frames_there : (fs : List SelFun) (hss : List (List Home)) (g : ℕ) (f : SelFun) → HavePlaces fs hss → slice_get fs g ≡ Some f → slice_get (frames_of fs hss) g ≡ Some (frame_plan f (get_or hss g []))
frames_there [] hss g f have there = absurd cc
frames_there (h ∷ fs) [] g f have there = absurd have
frames_there (h ∷ fs) (hs ∷ hss) zero f have there = let same : h ≡ f = cc in ap (λ x. Some (frame_plan x hs)) same
frames_there (h ∷ fs) (hs ∷ hss) (suc g) f have there = frames_there fs hss g f have.1 there

-- a number past the last function has no registers
own_there : (fs : List SelFun) (hss : List (List Home)) (g : ℕ) → HaveOwn fs hss → HasOwn (get_or fs g no_function) (get_or hss g [])
own_there [] [] g own = record { long = refl; in_frame = in_frame_of [] g (λ k d below. absurd (omega (arith, below))); apart = λ x y h a b. absurd cc }
own_there [] (hs ∷ hss) g own = absurd own
own_there (f ∷ fs) [] g own = absurd own
own_there (f ∷ fs) (hs ∷ hss) zero own = own.0
own_there (f ∷ fs) (hs ∷ hss) (suc g) own = own_there fs hss g own.1

-- the pointer of a number
address_there : (pointers : List SlotAddr) (g : ℕ) (a : SlotAddr) (at : ℕ) → slice_get pointers g ≡ Some a → slice_get (map slot_number pointers) g ≡ Some at → at ≡ slot_number a
address_there [] g a at is there = absurd cc
address_there (p ∷ ps) zero a at is there = let same : p ≡ a = cc in let here : slot_number p ≡ at = cc in sym here ∙ ap slot_number same
address_there (p ∷ ps) (suc g) a at is there = address_there ps g a at is there

-- a function of a row is one of an object that has it
function_of_row : (row : List Marked) (o : Object) (fs routines : List Func) (g : ℕ) → slice_get fs g ≡ Some (saved_function row) → o.functions ≡ with_first_cuts most_cuts fs ++ routines → IsRow row → IsFunction o g row
function_of_row row o fs routines g there are is_row =
    let cut = cut_there most_cuts fs g (saved_function row) there in
    record {
      function = cut.0;
      there = ap (λ l. slice_get l g) are ∙ in_front (with_first_cuts most_cuts fs) routines g cut.0 cut.1;
      bytes = cut.2;
      links = cut.3;
      is_row = is_row;
    }

-- one function of a program weighs no more than all, and has no more calls
one_weighs : (fs : List SelFun) (g : ℕ) (f : SelFun) → slice_get fs g ≡ Some f → sel_function_weight f ≤ sum_by sel_function_weight fs
one_weighs [] g f there = absurd cc
one_weighs (h ∷ fs) zero f there = let same = ap sel_function_weight (let e : h ≡ f = cc in e) in let sum = sum_by-cons sel_function_weight h fs in omega (arith, same, sum)
one_weighs (h ∷ fs) (suc g) f there = let r = one_weighs fs g f there in let sum = sum_by-cons sel_function_weight h fs in omega (arith, r, sum)

one_calls : (fs : List SelFun) (g : ℕ) (f : SelFun) → slice_get fs g ≡ Some f → calls_of_functions (take g fs) + calls_of_blocks f.blocks ≤ calls_of_functions fs
one_calls [] g f there = absurd cc
one_calls (h ∷ fs) zero f there = let same = ap (λ (x : SelFun). calls_of_blocks x.blocks) (let e : h ≡ f = cc in e) in let sum = calls_more h fs in omega (arith, same, sum)
one_calls (h ∷ fs) (suc g) f there = let r = one_calls fs g f there in let sum = calls_more h fs in let front = calls_more h (take g fs) in omega (arith, r, sum, front)

module _ (c : Choices) (sel : Sel) (slot_draw : ℕ) (chosen : AreChosen c sel slot_draw) (own : HaveOwn sel.functions c.homes) where
  abbrev pub by : ℕ → Making
  by g = making_of c g (function_in sel g)

  abbrev pub live : ℕ → ℕ → ℕ → ℕ → Type 0
  live g = live_all (function_in sel g)

  module _ (routines : List Func) (o : Object) (assembled : IsAssembled (lowered c sel) routines c.slots c.placing slot_draw c.reg_seed o) where
    there_is : (g : ℕ) (fn : SelFun) → slice_get sel.functions g ≡ Some fn → slice_get sel.functions g ≡ Some (function_in sel g)
    there_is g fn there = there ∙ ap Some (sym (function_is sel g fn there))

    shaped_is : (g : ℕ) (fn : SelFun) → slice_get sel.functions g ≡ Some fn → IsFunShaped sel (function_in sel g)
    shaped_is g fn there = all_there (IsFunShaped sel) sel.functions g (function_in sel g) chosen.shaped.functions (there_is g fn there)

    light_is : (g : ℕ) (fn : SelFun) → slice_get sel.functions g ≡ Some fn → sel_function_weight (function_in sel g) ≤ MAX_CODE
    light_is g fn there =
        let weighs = chosen.shaped.weighs in
        let one = one_weighs sel.functions g (function_in sel g) (there_is g fn there) in
        omega (arith, weighs, one)

    -- a function's calls go by slots that there are
    linked_is : (g : ℕ) (fn : SelFun) → slice_get sel.functions g ≡ Some fn → first_slot sel g + calls_of_blocks (function_in sel g).blocks ≤ length (slots_of sel)
    linked_is g fn there =
        let one = one_calls sel.functions g (function_in sel g) (there_is g fn there) in
        let all = slots_long sel in
        omega (arith, one, all)

    ranged_is : (g : ℕ) (fn : SelFun) → slice_get sel.functions g ≡ Some fn → IsRanged (by g) (function_in sel g)
    ranged_is g fn there = (whole c sel slot_draw chosen g (function_in sel g) (first_slot sel g) (there_is g fn there) (shaped_is g fn there) (light_is g fn there) (linked_is g fn there)).ranged

    pub codes : (g : ℕ) (fn : SelFun) → slice_get sel.functions g ≡ Some fn → IsFunction o g (code_in sel by g)
    codes g fn there =
        function_of_row (code_in sel by g) o (lowered c sel) routines g (lowered_there c sel g (function_in sel g) (there_is g fn there)) assembled.functions
        (function_ranged (by g) (first_slot sel g) (function_in sel g) (ranged_is g fn there))

    -- where a jump to a slot stands that calls a function, or goes by a pointer
    calls_back : (g off k t : ℕ) (site : Site) (fn : SelFun) (rest : List Marked) → slice_get sel.functions g ≡ Some fn → slice_get (slots_of sel) k ≡ Some (Slot0.Call t site) →
        Stands (code_in sel by g) off (linked (Jmp (pos 0)) k ∷ rest) → GoesBackTo o k (λ back. Slot.Call t back) (Place.Code g (off + 5))
    calls_back g off k t site fn rest there planned stands =
        let r = call_at c sel routines slot_draw c.reg_seed o assembled k t site (ap (λ l. slice_get l k) chosen.plan.slots ∙ planned) in
        record { back = r.back; is_slot = r.is_slot; is_place = ap at_code (way_back c sel routines slot_draw c.reg_seed o assembled g (function_in sel g) off k rest r.back (there_is g fn there) stands r.ends) }

    pointer_back : (g off k : ℕ) (site : Site) (fn : SelFun) (rest : List Marked) → slice_get sel.functions g ≡ Some fn → slice_get (slots_of sel) k ≡ Some (Slot0.Indirect site) →
        Stands (code_in sel by g) off (linked (Jmp (pos 0)) k ∷ rest) → GoesBackTo o k Slot.Indirect (Place.Code g (off + 5))
    pointer_back g off k site fn rest there planned stands =
        let r = pointer_at c sel routines slot_draw c.reg_seed o assembled k site (ap (λ l. slice_get l k) chosen.plan.slots ∙ planned) in
        record { back = r.back; is_slot = r.is_slot; is_place = ap at_code (way_back c sel routines slot_draw c.reg_seed o assembled g (function_in sel g) off k rest r.back (there_is g fn there) stands r.ends) }

    -- the slot of an operation
    planned_at : (g k n : ℕ) (fn : SelFun) (b : SelBlock) (op : SelOp) (slot : ℕ → Slot0) → slice_get sel.functions g ≡ Some fn → slice_get fn.blocks k ≡ Some b → slice_get b.ops n ≡ Some op → HasPlanned (length sel.functions) g op slot →
        (m : ℕ) × (slice_get (slots_of sel) (slot_behind sel g k (take n b.ops)) ≡ Some (slot m))
    planned_at g k n fn b op slot there is_block is_op has =
        let same = function_is sel g fn there in
        let f = function_in sel g in
        let m : ℕ = calls_of_blocks (take k f.blocks) + calls_in (take n b.ops) in
        let place : slot_behind sel g k (take n b.ops) ≡ suc (takens sel.taken) + (calls_of_functions (take g sel.functions) + m) = omega arith in
        (m, ap (slice_get (slots_of sel)) place ∙ slot_there sel g f k b n op slot (there_is g fn there) (ap (λ (x : SelFun). slice_get x.blocks k) same ∙ is_block) is_op has)

    pub called : (g k n off : ℕ) (fn : SelFun) (b : SelBlock) (op : SelOp) (rest : List Marked) → slice_get sel.functions g ≡ Some fn → slice_get fn.blocks k ≡ Some b → slice_get b.ops n ≡ Some op →
        Stands (code_in sel by g) off (linked (Jmp (pos 0)) (slot_behind sel g k (take n b.ops)) ∷ rest) → HasSlot o (length sel.functions) (slot_behind sel g k (take n b.ops)) (Place.Code g (off + 5)) op
    called g k n off fn b (Call t r args) rest there is_block is_op stands =
        let p = planned_at g k n fn b (Call t r args) (λ m. Slot0.Call t (record { function = g; number = m })) there is_block is_op (λ m. refl) in
        calls_back g off (slot_behind sel g k (take n b.ops)) t (record { function = g; number = p.0 }) fn rest there p.1 stands
    called g k n off fn b (CallAt s r args) rest there is_block is_op stands =
        let p = planned_at g k n fn b (CallAt s r args) (λ m. Slot0.Indirect (record { function = g; number = m })) there is_block is_op (λ m. refl) in
        pointer_back g off (slot_behind sel g k (take n b.ops)) (record { function = g; number = p.0 }) fn rest there p.1 stands
    called g k n off fn b (Outside Trap r args) rest there is_block is_op stands = tt
    called g k n off fn b (Outside Putchar r args) rest there is_block is_op stands =
        let p = planned_at g k n fn b (Outside Putchar r args) (λ m. Slot0.Call (length sel.functions + 1) (record { function = g; number = m })) there is_block is_op (λ m. refl) in
        calls_back g off (slot_behind sel g k (take n b.ops)) (length sel.functions + 1) (record { function = g; number = p.0 }) fn rest there p.1 stands
    called g k n off fn b (Outside Getchar r args) rest there is_block is_op stands =
        let p = planned_at g k n fn b (Outside Getchar r args) (λ m. Slot0.Call (length sel.functions + 2) (record { function = g; number = m })) there is_block is_op (λ m. refl) in
        calls_back g off (slot_behind sel g k (take n b.ops)) (length sel.functions + 2) (record { function = g; number = p.0 }) fn rest there p.1 stands
    called g k n off fn b (Outside Exit r args) rest there is_block is_op stands =
        let p = planned_at g k n fn b (Outside Exit r args) (λ m. Slot0.Call (length sel.functions + 3) (record { function = g; number = m })) there is_block is_op (λ m. refl) in
        calls_back g off (slot_behind sel g k (take n b.ops)) (length sel.functions + 3) (record { function = g; number = p.0 }) fn rest there p.1 stands
    called g k n off fn b (Outside Memcpy r args) rest there is_block is_op stands =
        let p = planned_at g k n fn b (Outside Memcpy r args) (λ m. Slot0.Call (length sel.functions + 4) (record { function = g; number = m })) there is_block is_op (λ m. refl) in
        calls_back g off (slot_behind sel g k (take n b.ops)) (length sel.functions + 4) (record { function = g; number = p.0 }) fn rest there p.1 stands
    called g k n off fn b (Outside Memset r args) rest there is_block is_op stands =
        let p = planned_at g k n fn b (Outside Memset r args) (λ m. Slot0.Call (length sel.functions + 5) (record { function = g; number = m })) there is_block is_op (λ m. refl) in
        calls_back g off (slot_behind sel g k (take n b.ops)) (length sel.functions + 5) (record { function = g; number = p.0 }) fn rest there p.1 stands
    called g k n off fn b (Set r m) rest there is_block is_op stands = tt
    called g k n off fn b (Copy r s) rest there is_block is_op stands = tt
    called g k n off fn b (Alu p w r s t) rest there is_block is_op stands = tt
    called g k n off fn b (Div signed remainder w r s t) rest there is_block is_op stands = tt
    called g k n off fn b (Widen signed from to r s) rest there is_block is_op stands = tt
    called g k n off fn b (Test p w r s t) rest there is_block is_op stands = tt
    called g k n off fn b (Pick r x s t) rest there is_block is_op stands = tt
    called g k n off fn b (Load w r s) rest there is_block is_op stands = tt
    called g k n off fn b (Store w s t) rest there is_block is_op stands = tt
    called g k n off fn b (FrameAt r at) rest there is_block is_op stands = tt
    called g k n off fn b (GlobalAt r h) rest there is_block is_op stands = tt
    called g k n off fn b (FunctionAt r h) rest there is_block is_op stands = tt

    -- a pointer is the address of a jump's slot
    pub pointed : (g at : ℕ) → IsTaken sel (plan_of c sel) g at → IsPointer o g at
    pointed g at is =
        let place = place_of sel slot_draw c.slots chosen.shaped chosen.plan g in
        let address = address_there c.slots.pointers g (address_of c.slots.positions place) at (pointer_is sel slot_draw c.slots chosen.shaped chosen.plan g is.taken) is.address in
        record {
          slot = place;
          is_slot = jump_at c sel routines slot_draw c.reg_seed o assembled place g (jump_is sel slot_draw c.slots chosen.shaped chosen.plan g is.taken);
          address = address ∙ ap (λ ps. slot_base + 16 * slice_index ps place) assembled.places;
        }

    -- all of it
    pub suits : (contents : List Content) → PlanFits sel contents (plan_of c sel) → AreRoutines o (length sel.functions) sel.main MAX_CALLS → length o.ro + length o.rw ≤ most_data →
        Contains stack_end 0 (record { spans = global_spans c.placing.globals contents; bytes = first_bytes c.placing.globals contents }) (first_core o).segments → Suits o sel (plan_of c sel) contents by live
    suits contents fits are few held = record {
      is_sel = chosen.shaped;
      fits = fits;
      codes = codes;
      short = λ g fn there. (let five = five_long c.reg_seed push_purpose g in let s = shaped_is g fn there in let params = s.few in let light = light_is g fn there in
          let size = function_light (by g) (omega (arith, five)) (first_slot sel g) (function_in sel g) (omega (arith, params)) in omega (arith, size, light));
      addresses = λ g. refl;
      frames = λ g fn there. frames_there sel.functions c.homes g fn chosen.places there ∙ ap (λ x. Some (frame_plan x (get_or c.homes g []))) (sym (function_is sel g fn there));
      rooms = λ g fn there. ap (λ (x : SelFun). 8 * (by g).words + x.frame) (function_is sel g fn there);
      passed = λ g fn there. (let same = ap words_passed (function_is sel g fn there) in let w : words_passed (function_in sel g) ≤ (by g).words = omega arith in omega (arith, same, w));
      five = λ g. five_long c.reg_seed push_purpose g;
      pushed = λ g r is. drawn_all c.reg_seed g r is;
      homes = λ g x. inside (get_or c.names g []) (words_passed (function_in sel g)) (by g).words (get_or c.homes g []) (in_frame_of c.homes g chosen.in_frame) (omega arith) (omega arith) x;
      behind = λ g k n x j lives below. behind_passed (get_or c.names g []) (function_in sel g) (get_or c.homes g []) (own_there sel.functions c.homes g own) x j lives below;
      allotted = λ g fn there. subst (λ f. Allotted f (by g).homes (live g)) (function_is sel g fn there)
          (allotted sel (get_or c.names g []) (function_in sel g) (get_or c.homes g []) (shaped_is g fn there) (own_there sel.functions c.homes g own));
      calls = called;
      pointers = pointed;
      few = (let slots = slots_number o.functions 0 c.slots.slots o.slots assembled.slots in let plan = ap length chosen.plan.slots in let below = (bounds sel chosen.shaped).slots in omega (arith, slots, plan, below));
      routines = are;
      stack = starts_with_stack o few;
      globals = held;
    }
