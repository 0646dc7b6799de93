-- Both runs begin with the same function, and with the globals where the plan has them.
use Rattle.std.proofs.Common.{◌≡◌, ℕ, zero, suc, ◌+◌, List, [], ◌∷◌, length, map, replicate, Option, Some, None, slice_get, refl, ap, sym, ◌∙◌, subst, inl, inr, ◌⊎◌, arith}
use Rattle.std.specs.Prelude.{codes}
use Rattle.behavior.specs.Ending.{Going}
use Rattle.ir_core.specs.declared.memory.Value.{Value}
use Rattle.ir_core.specs.declared.module.Function.{Function}
use Rattle.ir_core.specs.declared.module.Module.{Module}
use Rattle.ir_core.specs.declared.module.Param.{Param}
use Rattle.ir_core.specs.Calls.{bound, first_frame}
use Rattle.ir_core.specs.Globals.{first_objects}
use Rattle.ir_core.specs.Operands.{function_number}
use Rattle.ir_core.specs.Run.{first_arguments, standing, start_in, start_at, source_start}
use Rattle.ir_core.specs.State.{Frame, State}
use Rattle.ir_sound.specs.WellTyped.{Each, IsWellTyped}
use Rattle.ir_sound.proofs.RowLaws.{item_at, below_at}
use Rattle.ir_sound.proofs.Start.{start_is}
use Rattle.low_core.specs.declared.sel.SelFun.{SelFun}
use Rattle.low_core.specs.Bridge.{Setting, IsKnown}
use Rattle.low_core.specs.Contents.{Addresses, addresses_of, word_of, data_bytes}
use Rattle.low_core.specs.Flat.{Bytes, forgotten}
use Rattle.low_core.specs.Plan.{FramePlan, Plan, Content, first_bytes}
use Rattle.low_core.specs.SelRun.{sel_standing, sel_start_in, sel_start}
use Rattle.low_core.specs.SelShaped.{IsMain}
use Rattle.low_core.specs.SelState.{SelFrame, SelState, first_sel_frame}
use Rattle.low_core.specs.SelState as sel
use Rattle.flat_memory.proofs.Start.{start_law}
use Rattle.isel_rows.specs.Functions.{function_selected, numbers_from}
use Rattle.x86_core.specs.Data.{stack_end}
use Rattle.isel_rows.specs.Variables.{number_or_first}
use Rattle.isel_rows.specs.Selected.{module_selected}
use Rattle.isel.proofs.Beside.{IsBeside, setting_of, state_of}
use Rattle.isel.proofs.Begun.{has_begun}
use Rattle.isel.proofs.Firsts.{are_first}
use Rattle.isel.proofs.Mentioned.{IsFine}
use Rattle.isel.proofs.Places.{function_there}
use Rattle.isel.proofs.Premises.{Premises}
use Rattle.ir_core.specs.Mentions.{mentions}

-- the state of registers beside the first one
pub record Begins (m : Module) (plan : Plan) (contents : List Content) (a : State) (b : SelState) : Type 0 where
  pub frames : List SelFrame
  pub bytes : Bytes
  pub is : b ≡ state_of a frames bytes
  pub beside : IsBeside m (setting_of m plan contents) a.frames a.objects frames bytes

numbers_long : (first count : ℕ) → length (numbers_from first count) ≡ count
numbers_long first zero = refl
numbers_long first (suc count) = ap suc (numbers_long (first + 1) count)

-- without parameters nothing is bound, on either side
none_bound : (ps : List Param) (us vs : List Value) → length ps ≡ 0 → bound ps us ≡ bound ps vs
none_bound [] us vs none = refl
none_bound (p ∷ ps) us vs none = absurd (omega (arith, none))

none_assigned : (rs us vs : List ℕ) (registers : List (Option ℕ)) → length rs ≡ 0 → sel.bound rs us registers ≡ sel.bound rs vs registers
none_assigned [] us vs registers none = refl
none_assigned (r ∷ rs) us vs registers none = absurd (omega (arith, none))

-- what both calls get
record Passed (m : Module) (k : ℕ) (fn : Function) (frame : FramePlan) (top : ℕ) : Type 0 where
  us : List Value
  even : length us ≡ length fn.params
  known : (at : Addresses) → Each (IsKnown (length (first_objects m)) (module_selected m).taken) us
  source : first_frame k fn first_arguments None ≡ first_frame k fn us None
  selected : (at : Addresses) → first_sel_frame k (function_selected m fn) frame top (0 ∷ 0 ∷ []) None ≡ first_sel_frame k (function_selected m fn) frame top (map (word_of at) us) None

passed_by : (m : Module) (k : ℕ) (fn : Function) (frame : FramePlan) (top : ℕ) → (length fn.params ≡ 0) ⊎ (length fn.params ≡ 2) → Passed m k fn frame top
passed_by m k fn frame top (inl none) = record {
  us = [];
  even = sym none;
  known = λ at. tt;
  source = ap (λ ls. record { function = k; block = 0; next = 0; locals = ls; objects = []; into = None }) (none_bound fn.params first_arguments [] none);
  selected = λ at.
      let long = numbers_long 0 (length fn.params) in
      ap (λ rs. record (first_sel_frame k (function_selected m fn) frame top [] None) { registers = rs })
      (none_assigned (numbers_from 0 (length fn.params)) (0 ∷ 0 ∷ []) [] (replicate (function_selected m fn).registers None) (long ∙ none));
}
passed_by m k fn frame top (inr two) = record {
  us = first_arguments;
  even = sym two;
  known = λ at. ((omega arith), (tt, tt));
  source = refl;
  selected = λ at. refl;
}

module _ (m : Module) (plan : Plan) (p : Premises m plan (data_bytes m plan)) (fine : Each (IsFine m) (mentions m)) where
  abbrev contents : List Content
  contents = data_bytes m plan

  abbrev g : Setting
  g = setting_of m plan contents

  -- with a `main` of a number
  main_begins : (k : ℕ) (fn : Function) → slice_get m.functions k ≡ Some fn → (module_selected m).main ≡ k →
      Begins m plan contents (standing (first_objects m) (first_frame k fn first_arguments None ∷ []) Going) (sel_start_in plan contents k (slice_get (module_selected m).functions k) (slice_get plan.frames k))
  main_begins k fn there main =
      let sel_there : slice_get (module_selected m).functions k ≡ Some (function_selected m fn) = function_there m k fn there in
      let long = p.fits.frames in
      let below = below_at (module_selected m).functions k (function_selected m fn) sel_there in
      let frame = item_at plan.frames k (omega (arith, long, below)) in
      let main_is : p.selected.main_fun ≡ function_selected m fn = some_same p.selected.main_fun (function_selected m fn) (sym p.selected.main_stands ∙ ap (slice_get (module_selected m).functions) main ∙ sel_there) in
      let many = numbers_long 0 (length fn.params) in
      let params : (length fn.params ≡ 0) ⊎ (length fn.params ≡ 2) = elim (subst IsMain main_is p.selected.main).params [
        | inl none ↦ inl (omega (arith, none, many))
        | inr two ↦ inr (omega (arith, two, many))
      ] in
      let passed = passed_by m k fn frame.0 stack_end params in
      let at = addresses_of plan in
      let tied = start_law (module_selected m) plan (first_objects m) p.fits (are_first m p.typed fine) in
      let begun = has_begun m plan contents p (first_objects m) at (first_bytes plan.globals contents) [] [] tt tied (omega arith) k fn there frame.0 frame.1 passed.us passed.even (passed.known at) None None tt in
      let h : SelFrame = first_sel_frame k (function_selected m fn) frame.0 stack_end (map (word_of at) passed.us) None in
      record {
        frames = h ∷ [];
        bytes = forgotten (first_bytes plan.globals contents) h.own.start h.own.size;
        is =
            ap (λ o. sel_start_in plan contents k o (slice_get plan.frames k)) sel_there ∙ ap (sel_start_in plan contents k (Some (function_selected m fn))) frame.1
            ∙ ap (λ (x : SelFrame). sel_standing (x ∷ []) (forgotten (first_bytes plan.globals contents) x.own.start x.own.size) Going) (passed.selected at);
        beside = subst (λ (x : Frame). IsBeside m g (x ∷ []) (first_objects m) (h ∷ []) (forgotten (first_bytes plan.globals contents) h.own.start h.own.size)) (sym passed.source) (record { at = at; calls = begun.are; tied = begun.tied });
      }
    where
      some_same : (a b : SelFun) → let o : Option SelFun = Some a in o ≡ Some b → a ≡ b
      some_same a b e = cc

  -- there is one
  by_number : (o : Option ℕ) → function_number m (codes "main") ≡ o → IsWellTyped m (start_at m o) → Begins m plan contents (start_at m o) (sel_start_in plan contents (module_selected m).main (slice_get (module_selected m).functions (module_selected m).main) (slice_get plan.frames (module_selected m).main))
  by_number None is typed = absurd typed.0.calls
  by_number (Some k) is typed = by_function (slice_get m.functions k) refl typed
    where
      main : (module_selected m).main ≡ k
      main = ap number_or_first is

      by_function : (o : Option Function) → slice_get m.functions k ≡ o → IsWellTyped m (start_in m k o) → Begins m plan contents (start_in m k o) (sel_start_in plan contents (module_selected m).main (slice_get (module_selected m).functions (module_selected m).main) (slice_get plan.frames (module_selected m).main))
      by_function None there t = absurd t.0.calls
      by_function (Some fn) there t =
          subst (λ n. Begins m plan contents (start_in m k (Some fn)) (sel_start_in plan contents n (slice_get (module_selected m).functions n) (slice_get plan.frames n))) (sym main) (main_begins k fn there main)

  pub begins : Begins m plan contents (source_start m) (sel_start (module_selected m) plan contents)
  unfolding source_start sel_start
  begins = by_number (function_number m (codes "main")) refl (start_is m p.typed)
