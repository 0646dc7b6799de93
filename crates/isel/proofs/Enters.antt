-- A function is called: both sides have too many calls, or a new one on top. A wrong type is a stop at which the source is left.
use Rattle.std.proofs.Common.{◌≡◌, ℕ, suc, ◌+◌, Bool, true, false, List, [], ◌∷◌, ◌++◌, map, length, Option, Some, None, Ok, Err, slice_get, refl, ap, sym, ◌∙◌, inl, inr, arith}
use Rattle.std.specs.Prelude.{nat_eq, nat_le, if◌then◌else◌}
use Rattle.std.proofs.lemmas.Bool.{and_parts, eq-eqb, leb-false}
use Rattle.std.proofs.lemmas.List.{length-append}
use Rattle.std.proofs.lemmas.Option.{slice_get_within}
use Rattle.ir_core.specs.declared.TheConstants.{MAX_CALLS}
use Rattle.ir_core.specs.declared.instruction.Arg.{Arg}
use Rattle.ir_core.specs.declared.instruction.Inst.{Inst}
use Rattle.ir_core.specs.declared.instruction.Op.TheVariants.{Call}
use Rattle.ir_core.specs.declared.kind.Kind.{Kind}
use Rattle.ir_core.specs.declared.memory.Reason.TheVariants.{Callee}
use Rattle.ir_core.specs.declared.memory.Value.{Value}
use Rattle.ir_core.specs.declared.memory.Value.TheVariants.{Fun}
use Rattle.ir_core.specs.declared.module.Function.{Function}
use Rattle.ir_core.specs.declared.module.Module.{Module}
use Rattle.ir_core.specs.declared.module.Param.{Param}
use Rattle.ir_core.specs.declared.operand.Operand.{Operand}
use Rattle.ir_core.specs.declared.ty.Ty.{Ty}
use Rattle.ir_core.specs.Calls.{same_kinds, is_called_as, first_frame, entry_turn}
use Rattle.ir_core.specs.Kinds.{kind_of, same_kind}
use Rattle.ir_core.specs.State.{Frame, State, Nothing, Turn, turned}
use Rattle.ir_core.specs.Step.{past}
use Rattle.ir_core.specs.Stops.{Stop, Depth, Left, Malformed, Answer, and_then, found_or}
use Rattle.ir_core.specs.Valid.{LocalKind}
use Rattle.ir_sound.specs.WellTyped.{Each}
use Rattle.ir_sound.proofs.RowLaws.{length_map, item_at}
use Rattle.ir_sound.proofs.SameLaws.{kinds_are, some_is}
use Rattle.low_core.specs.declared.sel.SelFun.{SelFun}
use Rattle.low_core.specs.declared.sel.SelOp.{SelOp}
use Rattle.low_core.specs.Flat.{Bytes, Flat, forgotten}
use Rattle.low_core.specs.Plan.{FramePlan, Plan, Content}
use Rattle.low_core.specs.Contents.{word_of}
use Rattle.low_core.specs.Bridge.{Setting, IsKnown}
use Rattle.low_core.specs.SelState.{SelFrame, SelState, SelTurn, sel_turned, first_sel_frame}
use Rattle.low_core.specs.SelStep.{past_op, begins, enters, op_turn}
use Rattle.isel_rows.specs.Calls.{register_into}
use Rattle.isel_rows.specs.Functions.{numbers_from, function_selected}
use Rattle.isel_rows.specs.Selected.{module_selected}
use Rattle.isel_rows.specs.Variables.{variables_of}
use Rattle.isel.proofs.Arguments.{Have, have_count}
use Rattle.isel.proofs.Begun.{has_begun}
use Rattle.isel.proofs.Beside.{WaitsIn, AreBeside, setting_of, Meets}
use Rattle.isel.proofs.Entered.{length_numbers}
use Rattle.isel.proofs.Here.{IsHere, memory, now, ops}
use Rattle.isel.proofs.Kept.{same_changed}
use Rattle.isel.proofs.Operands.{IsReady}
use Rattle.isel.proofs.Past.{call_past, top_past}
use Rattle.isel.proofs.Places.{function_there}
use Rattle.isel.proofs.Premises.{Premises}
use Rattle.isel.proofs.Stacked.{calls_count}
use Rattle.isel.proofs.Straight.{moved, passed}
use Rattle.isel.proofs.Turns.{later, holds_after, comes_to, stops_last}

module _ (m : Module) (plan : Plan) (contents : List Content) (p : Premises m plan contents) (input : List ℕ) (s : State) (f : Frame) (fs : List Frame) (h : SelFrame) (hs : List SelFrame) (bytes : Bytes)
    (x : IsHere m (setting_of m plan contents) s f fs h hs bytes) where
  abbrev g : Setting
  g = setting_of m plan contents

  abbrev V : List LocalKind
  V = variables_of x.call.fn

  abbrev flat : Flat
  flat = memory m plan contents p input s f fs h hs bytes x

  abbrev spot : SelState
  spot = now m plan contents p input s f fs h hs bytes x

  module _ (into : Option (List ℕ)) (ret : Ty) (callee : Operand) (args : List Arg) (there : slice_get x.call.block.insts f.next ≡ Some (record { result = into; op = Call ret callee args })) where
    abbrev i : Inst
    i = record { result = into; op = Call ret callee args }

    abbrev os : List SelOp
    os = ops m plan contents p input s f fs h hs bytes x i there

    abbrev kinds : List Kind
    kinds = map (λ (a : Arg). kind_of a.ty) args

    -- values of arguments can arise
    have_known : (bs : List Arg) (us : List Value) → Have m plan contents p input s f fs h hs bytes x bs us → Each (IsKnown (length s.objects) g.taken) us
    have_known [] [] have = tt
    have_known [] (u ∷ us) have = absurd have
    have_known (b ∷ bs) [] have = absurd have
    have_known (b ∷ bs) (u ∷ us) have = (have.0.known, have_known bs us have.1)

    module _ (k : ℕ) (wrong : Stop) (front : List SelOp) (last : SelOp) (after : List (Option ℕ)) (us : List Value) (are : front ++ last ∷ [] ≡ os) (runs : passed plan h.own flat h.registers front ≡ Ok after)
        (prepared : IsReady x.at V x.call.holds.values after) (count : length after ≡ length h.registers) (have : Have m plan contents p input s f fs h hs bytes x args us)
        (turns : op_turn (module_selected m) plan flat input (later m plan contents p input s f fs h hs bytes x after (length front)) (moved h after (length front)) hs last
        ≡ enters wrong (module_selected m) plan (later m plan contents p input s f fs h hs bytes x after (length front)) (moved h after (length front)) hs (register_into V into) (map (word_of x.at) us) k) where
      abbrev h2 : SelFrame
      h2 = moved h after (length front)

      abbrev t : SelState
      t = later m plan contents p input s f fs h hs bytes x after (length front)

      abbrev words : List ℕ
      words = map (word_of x.at) us

      abbrev r : Option ℕ
      r = register_into V into

      -- what the source does, where the function has the types of the call or hasn't
      abbrev if_fits : Function → Bool → Answer Turn
      if_fits fn b = if b then (if nat_le MAX_CALLS (length s.frames) then Err Depth else Ok (record { frames = first_frame k fn us into ∷ past f ∷ fs; objects = s.objects; exchange = Nothing })) else Err (Left Callee)

      -- the call goes on behind the operation once the one that begins has returned
      waiting : AreBeside m g s.objects x.at (past f ∷ fs) (past_op h2 ∷ hs)
      waiting =
          let more : length os ≡ length front + 1 = ap length (sym are) ∙ length-append front (last ∷ []) in
          let changed = same_changed g s.objects s.objects x.at (record { count = refl; before = λ i y l. (y, (l, refl)) }) in (
            call_past m plan contents p input s f fs h hs bytes x i there s.objects x.at 0 0 changed (λ q e low high. absurd (omega arith)) f.locals f.objects after (h.next + length front + 1) (omega (arith, more)) refl count
                (holds_after m plan contents p input s f fs h hs bytes x after prepared),
            top_past m plan contents p input s f fs h hs bytes x i there after (h.next + length front + 1),
            x.waits,
            x.callers,
          )

      module _ (fn : Function) (there_fn : slice_get m.functions k ≡ Some fn) (fits : is_called_as fn (kind_of ret) kinds ≡ true) where
        -- as many parameters as values
        even : length us ≡ length fn.params
        even =
            let parts = and_parts (same_kind (kind_of fn.ret) (kind_of ret)) (same_kinds (map (λ (q : Param). kind_of q.ty) fn.params) kinds) fits in
            let same = ap length (kinds_are (map (λ (q : Param). kind_of q.ty) fn.params) kinds parts.1) in
            let many = length_map (λ (q : Param). kind_of q.ty) fn.params in
            let args_many = length_map (λ (a : Arg). kind_of a.ty) args in
            have_count m plan contents p input s f fs h hs bytes x args us have ∙ sym args_many ∙ sym same ∙ many

        -- the plan has a frame for it
        planned : (frame : FramePlan) × (slice_get plan.frames k ≡ Some frame)
        planned =
            let low = slice_get_within m.functions k fn there_fn in
            let many = p.fits.frames in
            let same = length_map (function_selected m) m.functions in
            item_at plan.frames k (omega (arith, low, many, same))

        abbrev new : SelFrame
        new = first_sel_frame k (function_selected m fn) planned.0 h.base words r

        -- so the call begins, or there are too many
        goes_in : op_turn (module_selected m) plan flat input t h2 hs last ≡ begins t h2 hs new
        goes_in =
            let one : SelFun → FramePlan → Answer SelTurn = (λ fn' q. if nat_eq (length fn'.params) (length words) then begins t h2 hs (first_sel_frame k fn' q h.base words r) else Err wrong) in
            let many : length (numbers_from 0 (length fn.params)) ≡ length words = length_numbers 0 (length fn.params) ∙ sym even ∙ sym (length_map (word_of x.at) us) in
            turns
            ∙ ap (λ o. and_then (found_or Malformed o) (λ fn'. and_then (found_or Malformed (slice_get plan.frames k)) (λ q. one fn' q))) (function_there m k fn there_fn)
            ∙ ap (λ o. and_then (found_or Malformed o) (λ q. one (function_selected m fn) q)) planned.1
            ∙ ap (λ b. if b then begins t h2 hs new else Err wrong) (eq-eqb (length (numbers_from 0 (length fn.params))) (length words) many)

        -- as many calls on both sides
        depths : (b : Bool) → nat_le MAX_CALLS (length s.frames) ≡ b → nat_le MAX_CALLS (suc (length hs)) ≡ b
        depths b e =
            let same = calls_count m plan contents p s.objects x.at fs hs x.callers in
            ap (λ n. nat_le MAX_CALLS (suc n)) same ∙ sym (ap (λ l. nat_le MAX_CALLS (length l)) x.top) ∙ e

        -- too many calls, or one more
        by_depth : (deep : Bool) → nat_le MAX_CALLS (length s.frames) ≡ deep
            → Meets m g input (length os) spot (turned s (if deep then Err Depth else Ok (record { frames = first_frame k fn us into ∷ past f ∷ fs; objects = s.objects; exchange = Nothing })))
        by_depth true e =
            stops_last m plan contents p input s f fs h hs bytes x i there front last after Depth are runs
            (goes_in ∙ ap (λ b. if b then Err Depth else Ok (record { frames = new ∷ past_op h2 ∷ hs; bytes = forgotten bytes new.own.start new.own.size; exchange = Nothing })) (depths true e))
        by_depth false e =
            let few = leb-false MAX_CALLS (suc (length hs)) (depths false e) in
            let waits : WaitsIn m (past f ∷ fs) into r = (λ fn2 is. ap (λ fn3. register_into (variables_of fn3) into) (some_is x.call.fn fn2 (sym x.call.in_module ∙ is))) in
            let b = has_begun m plan contents p s.objects x.at bytes (past f ∷ fs) (past_op h2 ∷ hs) waiting x.tied few k fn there_fn planned.0 planned.1 us even (have_known args us have) into r waits in
            inr (inl (record {
              frames = new ∷ past_op h2 ∷ hs;
              bytes = forgotten bytes new.own.start new.own.size;
              is = comes_to m plan contents p input s f fs h hs bytes x i there front last after are runs
                  ∙ ap (sel_turned t) (goes_in ∙ ap (λ b. if b then Err Depth else Ok (record { frames = new ∷ past_op h2 ∷ hs; bytes = forgotten bytes new.own.start new.own.size; exchange = Nothing })) (depths false e));
              beside = record { at = x.at; calls = b.are; tied = b.tied };
            }))

      -- a function by its number
      pub enters_met : Meets m g input (length os) spot (turned s (entry_turn m s (past f ∷ fs) (kind_of ret) kinds us into (Fun k)))
      enters_met = of_function (slice_get m.functions k) refl
        where
          of_types : (fn : Function) → slice_get m.functions k ≡ Some fn → (b : Bool) → is_called_as fn (kind_of ret) kinds ≡ b → Meets m g input (length os) spot (turned s (if_fits fn b))
          of_types fn is true e = by_depth fn is e (nat_le MAX_CALLS (length s.frames)) refl
          of_types fn is false e = inl refl

          of_function : (o : Option Function) → slice_get m.functions k ≡ o → Meets m g input (length os) spot (turned s (and_then (found_or Malformed o) (λ fn. if_fits fn (is_called_as fn (kind_of ret) kinds))))
          of_function (Some fn) is = of_types fn is (is_called_as fn (kind_of ret) kinds) refl
          of_function None is = inl refl
