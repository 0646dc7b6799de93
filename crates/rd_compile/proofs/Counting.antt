-- An object whose numbers are in range is one whose counts fit their fields, too.
use Rattle.std.proofs.Common.{◌≡◌, ℕ, zero, suc, ◌+◌, ◌-◌, ◌<◌, ◌≤◌, ◌^◌, List, [], ◌∷◌, length, take, Some, slice_get, refl, ap, sym, subst, ◌∙◌, arith, length-append}
use Rattle.ir_core.specs.declared.limit.TheConstants.{MAX_BYTES, MAX_CODE}
use Rattle.low_core.specs.declared.sel.SelFun.{SelFun}
use Rattle.low_core.specs.declared.sel.Sel.{Sel}
use Rattle.low_core.specs.SelShaped.{IsFunShaped}
use Rattle.low_core.specs.SelWeights.{sel_function_weight}
use Rattle.obj_core.specs.declared.object.Func.{Func}
use Rattle.obj_core.specs.declared.object.Object.{Object}
use Rattle.obj_core.specs.declared.plan.Slot0.{Slot0}
use Rattle.obj_core.specs.Object.{Each, IsFunc, IsObject}
use Rattle.obj_core.specs.Slots.{push_purpose}
use Rattle.obj_check.specs.Ranges.{AreFuncNumbers, AreNumbers}
use Rattle.obj_rows.specs.Assembled.{most_cuts, with_first_cuts, IsAssembled}
use Rattle.obj_rows.specs.Marked.{row_size}
use Rattle.obj_rows.specs.Sound.{IsSoundFunction}
use Rattle.slot_plan.proofs.Bounds.{bounds, slots_long}
use Rattle.rt_routines.specs.Code.{routines_of}
use Rattle.rt_routines.proofs.Planned.{are_sound}
use Rattle.frame_lower.specs.Chain.{first_slot}
use Rattle.frame_lower.specs.Functions.{Choices, function_row, making_of, saved_function, lowered}
use Rattle.frame_lower.specs.Given.{AreChosen}
use Rattle.frame_lower.proofs.Chosen.{five_long}
use Rattle.frame_lower.proofs.LinkedOnce.{lowered_long, lowered_there}
use Rattle.frame_lower.proofs.Marks.{links_long}
use Rattle.frame_lower.proofs.Ranged.{each_append}
use Rattle.frame_lower.proofs.Sizes.{function_light}
use Rattle.frame_lower.proofs.Suited.{all_there}
use Rattle.frame_lower.proofs.Totals.{slots_long as slots_number}
use Rattle.obj_rows.proofs.Rows.{spelled_size}
use Rattle.rd_compile.proofs.Linking.{each_there, one_calls, one_weighs, few_functions}

-- a function of few bytes, links and cuts
record IsShort (f : Func) : Type 0 where
  pub bytes : length f.bytes < 2 ^ 32
  pub links : length f.links < 2 ^ 32
  pub cuts : length f.cuts < 2 ^ 32

-- the same but for its cuts
record IsShortUncut (f : Func) : Type 0 where
  pub bytes : length f.bytes < 2 ^ 32
  pub links : length f.links < 2 ^ 32

take_low : (count : ℕ) (xs : List ℕ) → length (take count xs) ≤ count
take_low zero xs = omega arith
take_low (suc count) [] = omega arith
take_low (suc count) (x ∷ xs) = let r = take_low count xs in omega (arith, r)

cut_short : (count : ℕ) (fs : List Func) → count ≤ most_cuts → Each IsShortUncut fs → Each IsShort (with_first_cuts count fs)
cut_short count [] few h = tt
cut_short count (f ∷ fs) few h =
    let low = take_low count f.cuts in
    let most : most_cuts ≡ 100000 = refl in
    (record { bytes = h.0.bytes; links = h.0.links; cuts = omega (arith, low, few, most) }, cut_short (count - length f.cuts) fs (omega (arith, few)) h.1)

sound_short : (slots : ℕ) (fs : List Func) → Each (IsSoundFunction slots) fs → Each IsShort fs
sound_short slots [] h = tt
sound_short slots (f ∷ fs) h = (record { bytes = h.0.fits.length_fits; links = h.0.fits.links_fit; cuts = h.0.fits.cuts_fit }, sound_short slots fs h.1)

are_functions : (fs : List Func) → Each AreFuncNumbers fs → Each IsShort fs → Each IsFunc fs
are_functions [] a b = tt
are_functions (f ∷ fs) a b =
    (record { bytes = a.0.bytes; links = a.0.links; cuts = a.0.cuts; length_fits = b.0.bytes; links_fit = b.0.links; cuts_fit = b.0.cuts }, are_functions fs a.1 b.1)

module _ (c : Choices) (sel : Sel) (slot_seed : ℕ) (chosen : AreChosen c sel slot_seed) where
  function_short : (g : ℕ) (f : SelFun) → slice_get sel.functions g ≡ Some f → IsShortUncut (saved_function (function_row (making_of c g f) (first_slot sel g) f))
  function_short g f there =
      let shaped = all_there (IsFunShaped sel) sel.functions g f chosen.shaped.functions there in
      let weighs = chosen.shaped.weighs in
      let one = one_weighs sel.functions g f there in
      let calls = one_calls sel.functions g f there in
      let all = slots_long sel in
      let few = (bounds sel chosen.shaped).slots in
      let row = function_row (making_of c g f) (first_slot sel g) f in
      let five = five_long c.reg_seed push_purpose g in
      let params = shaped.few in
      let size : row_size row ≤ sel_function_weight f = function_light (making_of c g f) (omega (arith, five)) (first_slot sel g) f (omega (arith, params)) in
      let spelled = spelled_size row in
      let links = links_long (making_of c g f) (first_slot sel g) f in
      let limit : MAX_CODE ≡ 67108864 = refl in
      record { bytes = omega (arith, size, weighs, one, limit, spelled); links = omega (arith, links, calls, all, few) }

  program_short : Each IsShortUncut (lowered c sel)
  program_short =
      each_there IsShortUncut sel.functions (lowered c sel) (lowered_long c sel)
      (λ g f there. (saved_function (function_row (making_of c g f) (first_slot sel g) f), lowered_there c sel g f there, function_short g f there))

  module _ (o : Object) (assembled : IsAssembled (lowered c sel) (routines_of c.slots) c.slots c.placing slot_seed c.reg_seed o) (few : length c.placing.ro + length c.placing.rw ≤ MAX_BYTES) where
    -- no more data than an object may have
    pub few_data : length o.ro + length o.rw ≤ 67108864
    few_data = let limit : MAX_BYTES ≡ 67108864 = refl in let a = ap length assembled.ro in let b = ap length assembled.rw in omega (arith, few, limit, a, b)

    all_short : Each IsShort o.functions
    all_short =
        subst (Each IsShort) (sym assembled.functions)
        (each_append IsShort (with_first_cuts most_cuts (lowered c sel)) (routines_of c.slots) (cut_short most_cuts (lowered c sel) (omega arith) program_short)
        (sound_short (length c.slots.slots) (routines_of c.slots) (are_sound sel chosen.shaped slot_seed c.slots chosen.plan).each))

    few_slots : length o.slots < 2 ^ 32
    few_slots =
        let same = slots_number o.functions 0 c.slots.slots o.slots assembled.slots in
        let planned = ap (λ (ss : List Slot0). length ss) chosen.plan.slots in
        let low = (bounds sel chosen.shaped).slots in
        omega (arith, same, planned, low)

    few_all : length o.functions < 2 ^ 32
    few_all =
        let both = few_functions c sel slot_seed chosen in
        let long = ap length assembled.functions ∙ length-append (with_first_cuts most_cuts (lowered c sel)) (routines_of c.slots) in
        omega (arith, both, long)

    pub is_object : AreNumbers o → IsObject o
    is_object known =
        let low = few_data in
        record {
          slot_seed = known.slot_seed;
          reg_seed = known.reg_seed;
          functions = are_functions o.functions known.functions all_short;
          slots = known.slots;
          ro = known.ro;
          rw = known.rw;
          functions_fit = few_all;
          slots_fit = few_slots;
          ro_fits = omega (arith, low);
          rw_fits = omega (arith, low);
        }
