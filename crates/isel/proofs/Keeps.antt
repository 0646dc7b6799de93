-- The program of registers means what the program does for which it is selected.
use Rattle.std.proofs.Common.{◌≡◌, ℕ, true, List, [], ◌∷◌, refl, ap, sym, ◌∙◌, subst, inl, inr, ◌⊎◌}
use Rattle.behavior.specs.Ending.{Going, is_left}
use Rattle.behavior.specs.Moment.{AreBytes, Agrees}
use Rattle.behavior.specs.Preserves.{Preserves, ReachesWithin}
use Rattle.behavior.specs.Simulation.{Follows, Starts, Spots}
use Rattle.behavior.specs.System.{System, iter}
use Rattle.behavior.proofs.Between.{adds_grows}
use Rattle.behavior.proofs.Laws.{going_is}
use Rattle.behavior.proofs.Stretch.{comes_none, met_by, starts_by, spots_follow}
use Rattle.ir_core.specs.declared.module.Module.{Module}
use Rattle.ir_core.specs.Mentions.{mentions}
use Rattle.ir_core.specs.Run.{source_start, source_run}
use Rattle.ir_core.specs.State.{Frame, State, source_moment, turned}
use Rattle.ir_core.specs.Step.{turn_of, source_step}
use Rattle.ir_core.proofs.Laws.{source_system, source_gradual, module_simulates, module_simulates_within}
use Rattle.ir_core.proofs.Steps.{step_going}
use Rattle.ir_sound.specs.WellTyped.{Each, AreOver}
use Rattle.ir_sound.proofs.Steps.{step_is}
use Rattle.ir_sound.proofs.Start.{start_is}
use Rattle.low_core.specs.declared.sel.Sel.{Sel}
use Rattle.low_core.specs.Bridge.{Setting}
use Rattle.low_core.specs.Contents.{data_bytes}
use Rattle.low_core.specs.Flat.{Bytes}
use Rattle.low_core.specs.Plan.{Plan, Content}
use Rattle.low_core.specs.SelRun.{sel_start, sel_run}
use Rattle.low_core.specs.SelState.{SelFrame, SelState, sel_moment}
use Rattle.low_core.specs.SelStep.{sel_step}
use Rattle.low_core.proofs.SelLaws.{sel_adds, sel_stays}
use Rattle.isel_rows.specs.Selected.{module_selected}
use Rattle.isel.specs.Bound.{longest}
use Rattle.isel.proofs.Begins.{begins}
use Rattle.isel.proofs.Beside.{IsBeside, Rest, setting_of, state_of}
use Rattle.isel.proofs.Mentioned.{IsFine}
use Rattle.isel.proofs.Premises.{Premises, call_typed}
use Rattle.isel.proofs.Steps.{IsStepMet, step_met}

-- a program of registers as a system
abbrev pub sel_system : Sel → Plan → List Content → List ℕ → System SelState
sel_system sel plan contents input = record {
  step = sel_step sel plan contents input;
  moment = sel_moment;
  grows = λ s. adds_grows (sel_moment s) (sel_moment (sel_step sel plan contents input s)) (sel_adds sel plan contents input s);
  stays = λ s h. ap sel_moment (sel_stays sel plan contents input s h);
}

module _ (m : Module) (plan : Plan) (p : Premises m plan (data_bytes m plan)) (fine : Each (IsFine m) (mentions m)) where
  abbrev contents : List Content
  contents = data_bytes m plan

  abbrev g : Setting
  g = setting_of m plan contents

  abbrev S : Sel
  S = module_selected m

  abbrev Free : State → Type 0
  Free a = Rest m g a

  abbrev spot : (a : State) → Free a → SelState
  spot a rest = state_of a rest.frames rest.bytes

  module _ (input : List ℕ) (are : AreBytes input) where
    -- a step of a run that goes on, met
    abbrev pub Outcome : State → List SelFrame → Bytes → Type 0
    Outcome s frames bytes = (is_left (source_step m input s).ending ≡ true) ⊎ IsStepMet m plan contents input s frames bytes

    by_frames : (s : State) (fs : List Frame) (hs : List SelFrame) (bytes : Bytes) → s.ending ≡ Going → s.frames ≡ fs → AreOver m fs s.objects → IsBeside m g fs s.objects hs bytes → Outcome s hs bytes
    by_frames s [] hs bytes going top over beside = inl (ap (λ (t : State). is_left t.ending) (step_going m input s going ∙ ap (λ fs. turned s (turn_of m input s fs)) top))
    by_frames s (f ∷ fs) [] bytes going top over beside = absurd beside.calls
    by_frames s (f ∷ fs) (h ∷ hs) bytes going top over beside =
        let call = beside.calls.0 in
        inr (step_met m plan contents p input are s f fs h hs bytes (record {
          going = going;
          top = top;
          at = beside.at;
          call = call;
          on_top = beside.calls.1;
          waits = beside.calls.2;
          callers = beside.calls.3;
          tied = beside.tied;
          typed = call_typed m call.fn s.objects f fs over call.in_module;
          over = over;
        }))

    pub follows : Follows (source_system m input) (sel_system S plan contents input) (Spots Free spot) (λ _. 0) (longest S)
    follows = spots_follow (source_system m input) (sel_system S plan contents input) Free spot (λ _. 0) (longest S) (source_gradual m input)
        (λ a rest. record { printed = refl; taken = refl; ending = refl })
        (λ a rest goes. elim (by_frames a a.frames rest.frames rest.bytes (going_is a.ending goes) refl rest.typed.0 rest.beside) [
          | inl l ↦ inl l
          | inr x ↦ elim x.meets [
            | inl l ↦ inl l
            | inr lands ↦ inr (met_by (source_system m input) (sel_system S plan contents input) (Spots Free spot) (λ _. 0) (longest S) a (source_step m input a) (spot a rest) (iter (sel_step S plan contents input) x.count (spot a rest))
                (record { count = x.count; low = x.some; high = x.few; arrives = refl })
                (elim lands [
                  | inl there ↦ inl (record { frames = there.frames; bytes = there.bytes; typed = step_is m input are p.typed a rest.typed; beside = there.beside }, there.is)
                  | inr stop ↦ inr stop
                ]))
          ]
        ])

    pub starts : Starts (source_system m input) (sel_system S plan contents input) (Spots Free spot) 0 (source_start m) (sel_start S plan contents)
    starts =
        let b = begins m plan p fine in
        let rest : Free (source_start m) = record { frames = b.frames; bytes = b.bytes; typed = start_is m p.typed; beside = b.beside } in
        starts_by (source_system m input) (sel_system S plan contents input) (Spots Free spot) (λ _. 0) (longest S) 0 (source_start m) (sel_start S plan contents) (sel_start S plan contents)
        (subst (λ t. Agrees (source_moment (source_start m)) (sel_moment t)) (sym b.is) (record { printed = refl; taken = refl; ending = refl }))
        (comes_none (sel_step S plan contents input) (sel_start S plan contents) (sel_start S plan contents) refl) (inl (rest, b.is))

  -- both ways
  pub selection_keeps : Preserves (source_run m) (sel_run S plan contents)
  unfolding sel_run
  selection_keeps =
      module_simulates m (sel_system S plan contents) (λ _. sel_start S plan contents) (λ input. Spots Free spot) (λ _ _. 0) 0 (longest S) (λ input are. follows input are) (λ input are. starts input are)

  pub selection_keeps_within : ReachesWithin 0 (longest S) (source_run m) (sel_run S plan contents)
  unfolding sel_run
  selection_keeps_within =
      module_simulates_within m (sel_system S plan contents) (λ _. sel_start S plan contents) (λ input. Spots Free spot) (λ _ _. 0) 0 (longest S) (λ input are. follows input are) (λ input are. starts input are)
