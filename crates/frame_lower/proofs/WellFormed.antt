-- An object that is put together of a program's functions and of sound routines is well formed.
use Rattle.std.proofs.Common.{◌≡◌, ℕ, suc, ◌+◌, ◌-◌, ◌≤◌, List, [], ◌∷◌, ◌++◌, length, map, Option, Some, None, slice_get, refl, ap, sym, subst, ◌∙◌, arith, length-append}
use Rattle.std.specs.List.{All, sum_by}
use Rattle.std.proofs.lemmas.List.Elements.{All-head, All-tail}
use Rattle.std.proofs.lemmas.List.Sums.{sum_by-cons}
use Rattle.ir_core.specs.declared.limit.TheConstants.{MAX_CODE}
use Rattle.low_core.specs.declared.sel.SelFun.{SelFun}
use Rattle.low_core.specs.declared.sel.Sel.{Sel}
use Rattle.low_core.specs.SelShaped.{IsFunShaped}
use Rattle.low_core.specs.SelWeights.{sel_function_weight, sel_weight}
use Rattle.obj_core.specs.declared.object.Func.{Func}
use Rattle.obj_core.specs.declared.object.Object.{Object}
use Rattle.obj_core.specs.Object.{Each, IsObject}
use Rattle.obj_core.specs.WellFormed.{most_data, AreFew, IsWellFormed, Violation, agrees_with, in_slots, is_good_slot, or_else}
use Rattle.obj_rows.specs.Assembled.{most_cuts, with_first_cuts, AreSlotsOf, IsAssembled}
use Rattle.obj_rows.specs.Sound.{IsSoundFunction, AreSound}
use Rattle.obj_rows.specs.Marked.{instrs_of}
use Rattle.slot_plan.specs.Slots.{jumps_from, all_calls_from, routine_slots, slots_of, takens}
use Rattle.slot_plan.proofs.Bounds.{bounds, jumps_long, all_calls_long}
use Rattle.frame_lower.specs.Blocks.{calls_of_blocks}
use Rattle.frame_lower.specs.Functions.{Choices, cuts_from, function_row, functions_with, lowered, slot_number}
use Rattle.frame_lower.specs.Given.{AreChosen, calls_of_functions}
use Rattle.frame_lower.proofs.Chosen.{made, whole}
use Rattle.frame_lower.proofs.Keeping.{AllKeep, keep_append, sounds_keep, instructions, disassembled, rule_3, rule_4, rule_5, rule_8, rule_9}
use Rattle.frame_lower.proofs.LinkedOnce.{lowered_long}
use Rattle.frame_lower.proofs.Programs.{calls_more}
use Rattle.frame_lower.proofs.RowKeeps.{function_keeps}
use Rattle.frame_lower.proofs.Targets.{LeadsBelow, others_below, all_slots_good}
use Rattle.frame_lower.proofs.Totals.{slots_long, cuts_of, bytes_of, cuts_both, bytes_both, first_cuts_few, first_cuts_bytes, first_cuts_long, sound_uncut, program_light}

module _ (c : Choices) (sel : Sel) (slot_draw : ℕ) (chosen : AreChosen c sel slot_draw) where
  -- each function of the program, from one on
  keeps_from : (count number slot : ℕ) (fs : List SelFun) → ((i : ℕ) (f : SelFun) → slice_get fs i ≡ Some f → slice_get sel.functions (number + i) ≡ Some f) → All (IsFunShaped sel) fs →
      sum_by sel_function_weight fs ≤ MAX_CODE → slot + calls_of_functions fs ≤ length (slots_of sel) →
      AllKeep c.reg_seed (length (slots_of sel)) number (with_first_cuts count (functions_with c.placing.globals (map slot_number c.slots.pointers) c.reg_seed c.names c.homes number slot fs))
  keeps_from count number slot [] there shaped light linked = tt
  keeps_from count number slot (f ∷ fs) there shaped light linked =
      let sum = sum_by-cons sel_function_weight f fs in
      let calls = calls_more f fs in
      let none : number + 0 ≡ number = omega arith in
      let one : suc number ≡ number + 1 = omega arith in
      let w = whole c sel slot_draw chosen number f slot (ap (slice_get sel.functions) (sym none) ∙ there 0 f refl) (All-head (IsFunShaped sel) f fs shaped) (omega (arith, sum, light)) (omega (arith, calls, linked)) in
      let left : ℕ = count - length (cuts_from 0 (instrs_of (function_row (made c sel slot_draw chosen number f) slot f))) in
      let rest = keeps_from left (suc number) (slot + calls_of_blocks f.blocks) fs (λ i g at. ap (slice_get sel.functions) (let e : suc number + i ≡ number + suc i = omega arith in e) ∙ there (suc i) g at) (All-tail (IsFunShaped sel) f fs shaped)
      (omega (arith, sum, light)) (omega (arith, calls, linked)) in
      (function_keeps (made c sel slot_draw chosen number f) c.reg_seed number (length (slots_of sel)) slot count f w, subst (λ n. AllKeep c.reg_seed (length (slots_of sel)) n (with_first_cuts left (functions_with c.placing.globals (map slot_number c.slots.pointers) c.reg_seed c.names c.homes (suc number) (slot + calls_of_blocks f.blocks) fs))) one rest)

  lowered_keeps : (count : ℕ) → AllKeep c.reg_seed (length (slots_of sel)) 0 (with_first_cuts count (lowered c sel))
  unfolding lowered
  lowered_keeps count =
      let shaped = chosen.shaped in
      let weighs = shaped.weighs in
      let jumps = jumps_from 0 sel.taken in
      let calls = all_calls_from (length sel.functions) 0 sel.functions in
      let routines = routine_slots (length sel.functions) sel.main in
      let a = length-append jumps (calls ++ routines) in
      let b = length-append calls routines in
      let j = jumps_long 0 sel.taken in
      let k = all_calls_long (length sel.functions) 0 sel.functions in
      keeps_from count 0 (suc (takens sel.taken)) sel.functions (λ i f at. ap (slice_get sel.functions) (let e : 0 + i ≡ i = omega arith in e) ∙ at) shaped.functions (omega (arith, weighs)) (omega (arith, a, b, j, k))

  lowered_light : bytes_of (lowered c sel) ≤ sel_weight sel
  unfolding lowered
  lowered_light = program_light sel c.placing.globals (map slot_number c.slots.pointers) c.reg_seed c.names c.homes 0 (suc (takens sel.taken)) sel.functions chosen.shaped.functions

  module _ (routines : List Func) (o : Object) (assembled : IsAssembled (lowered c sel) routines c.slots c.placing slot_draw c.reg_seed o) (sound : AreSound routines c.slots) where
    abbrev functions : List Func
    functions = with_first_cuts most_cuts (lowered c sel) ++ routines

    slots_are : length o.slots ≡ length (slots_of sel)
    slots_are = slots_long o.functions 0 c.slots.slots o.slots assembled.slots ∙ ap length chosen.plan.slots

    all_keep : AllKeep o.reg_seed (length o.slots) 0 o.functions
    all_keep =
        let both : AllKeep c.reg_seed (length (slots_of sel)) 0 functions =
        keep_append c.reg_seed (length (slots_of sel)) 0 (with_first_cuts most_cuts (lowered c sel)) routines (lowered_keeps most_cuts)
        (sounds_keep c.reg_seed (length (slots_of sel)) _ routines (subst (λ n. Each (IsSoundFunction n) routines) (ap length chosen.plan.slots) sound.each)) in
        subst (λ fs. AllKeep o.reg_seed (length o.slots) 0 fs) (sym assembled.functions)
        (subst (λ n. AllKeep o.reg_seed n 0 functions) (sym slots_are) (subst (λ r. AllKeep r (length (slots_of sel)) 0 functions) (sym assembled.reg_seed) both))

    functions_are : length o.functions ≡ length sel.functions + 6
    functions_are =
        let a = ap length assembled.functions in
        let b = length-append (with_first_cuts most_cuts (lowered c sel)) routines in
        let d = first_cuts_long most_cuts (lowered c sel) in
        let e = lowered_long c sel in
        let six = sound.six in
        omega (arith, a, b, d, e, six)

    -- rules 6 and 7
    slots_keep : (in_slots 6 (λ k s. is_good_slot (instructions o.reg_seed (length o.slots) 0 o.functions all_keep) s) 0 o.slots ≡ None) × (in_slots 7 agrees_with 0 o.slots ≡ None)
    slots_keep =
        let others = others_below sel chosen.shaped in
        let planned : AreSlotsOf o.functions 0 (slots_of sel) o.slots = subst (λ ps. AreSlotsOf o.functions 0 ps o.slots) chosen.plan.slots assembled.slots in
        let long = functions_are in
        let behind = jumps_from 0 sel.taken ++ (all_calls_from (length sel.functions) 0 sel.functions ++ routine_slots (length sel.functions) sel.main) in
        all_slots_good o.reg_seed (length o.slots) o.functions all_keep (length sel.functions) behind o.slots (omega (arith, long)) (subst (λ n. Each (LeadsBelow n) behind) (sym functions_are) others) planned

    -- rule 1
    few : length o.ro + length o.rw ≤ most_data → AreFew o
    few data_few =
        let shaped = chosen.shaped in
        let count = shaped.few in
        let weighs = shaped.weighs in
        let long = functions_are in
        let slots = slots_are in
        let below = (bounds sel shaped).slots in
        let cuts = ap cuts_of assembled.functions ∙ cuts_both (with_first_cuts most_cuts (lowered c sel)) routines in
        let first = first_cuts_few most_cuts (lowered c sel) in
        let uncut = sound_uncut _ routines sound.each in
        let bytes = ap bytes_of assembled.functions ∙ bytes_both (with_first_cuts most_cuts (lowered c sel)) routines in
        let same = first_cuts_bytes most_cuts (lowered c sel) in
        let light = lowered_light in
        let little = sound.few in
        record {
          some_function = omega (arith, long);
          functions = omega (arith, long, count);
          pieces = omega (arith, long, count, cuts, first, uncut);
          some_slot = omega (arith, slots);
          slots = omega (arith, slots, below);
          code = omega (arith, bytes, same, light, little, weighs);
          data_bytes = data_few;
        }

    pub well_formed : IsObject o → length o.ro + length o.rw ≤ most_data → IsWellFormed o
    well_formed object data_few =
        let seed = o.reg_seed in
        let slots : ℕ = length o.slots in
        let code = instructions seed slots 0 o.functions all_keep in
        record {
          object = object;
          few = few data_few;
          disassemblies = code;
          disassembled = disassembled seed slots 0 o.functions all_keep;
          kept = none_of _ _ _ _ _ _ _ (rule_3 seed slots o.functions all_keep) (rule_4 seed slots o.functions all_keep) (rule_5 seed slots o.functions all_keep) slots_keep.0 slots_keep.1
              (rule_8 seed slots o.functions all_keep) (rule_9 seed slots o.functions all_keep);
        }
      where
        none_of : (a b d e f g h : Option Violation) → a ≡ None → b ≡ None → d ≡ None → e ≡ None → f ≡ None → g ≡ None → h ≡ None → or_else a (or_else b (or_else d (or_else e (or_else f (or_else g h))))) ≡ None
        none_of None None None None None None None p q r s t u v = refl
        none_of (Some x) b d e f g h p q r s t u v = absurd cc
        none_of None (Some x) d e f g h p q r s t u v = absurd cc
        none_of None None (Some x) e f g h p q r s t u v = absurd cc
        none_of None None None (Some x) f g h p q r s t u v = absurd cc
        none_of None None None None (Some x) g h p q r s t u v = absurd cc
        none_of None None None None None (Some x) h p q r s t u v = absurd cc
        none_of None None None None None None (Some x) p q r s t u v = absurd cc
