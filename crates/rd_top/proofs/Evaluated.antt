-- What a run of a module by its meaning did, as the course of the module tells it.
use Rattle.std.proofs.Common.{◌≡◌, ℕ, zero, suc, ◌+◌, ◌-◌, ◌<◌, ◌≤◌, List, [], ◌∷◌, ◌++◌, length, Some, Ok, Err, refl, ◌∙◌, sym, ap, subst, inl, inr, arith, ◌⊎◌}
use Rattle.std.specs.Prelude.{drop, replicate, slice_get}
use Rattle.behavior.specs.Moment.{AreBytes}
use Rattle.ir_eval.specs.declared.outcome.IrOutcome.{IrOutcome}
use Rattle.ir_eval.specs.Evaluated.{Evaluated, IsCutOff}
use Rattle.ir_eval.specs.Outcomes.{outcome_ending}
use Rattle.rd_io.specs.Outside.{IsPrefixOf}
use Rattle.rd_io.specs.Told.{SourceTold, SinkTold}
use Rattle.rd_io.specs.declared.RunFault.{RunFault}
use Rattle.rd_io.specs.declared.RunFault.TheVariants as fault
use Rattle.ir_core.specs.declared.module.Module.{Module}
use Rattle.ir_core.specs.State.{State}
use Rattle.ir_core.specs.Step.{source_step}
use Rattle.ir_run.specs.Runs.{Exchanges, AsksIn, PrintsPart, Charged, state_after}
use Rattle.rd_top.specs.declared.answer.Outcome.{Outcome}
use Rattle.rd_top.specs.Answers.{ending_from}
use Rattle.rd_top.specs.Courses.{Reached, IsCutByInput, IsCutByMemory, IsCutByOutput, IsRun, Streams, WhereRead, run_answer}
use Rattle.rd_top.specs.Modules.{module_course, module_point, prints_then, takes_then}

-- what is behind a list
drop_front : (xs ys : List ℕ) → drop (length xs) (xs ++ ys) ≡ ys
drop_front [] ys = refl
drop_front (x ∷ xs) ys = drop_front xs ys

-- a row of zeros has one at each place
zero_last : (k : ℕ) → slice_get {X = ℕ} (replicate (suc k) 0) k ≡ Some 0
zero_last zero = refl
zero_last (suc k) = zero_last k

zero_at : (k : ℕ) → slice_get {X = ℕ} (replicate (k + 1) 0) k ≡ Some 0
zero_at k =
    let one : suc k ≡ k + 1 = omega arith in
    subst (λ n. slice_get {X = ℕ} (replicate n 0) k ≡ Some 0) one (zero_last k)

less_itself : (t : ℕ) → (t + 1) - t ≡ 1
less_itself t = omega arith

takes_one : (m : Module) (s : State) → AsksIn m s → takes_then m s ≡ 1
takes_one m s asks = ap (λ k. k - s.taken) (asks (replicate (s.taken + 1) 0) 0 (zero_at s.taken)) ∙ less_itself s.taken

prints_one : (m : Module) (xs : List ℕ) (s : State) (byte : ℕ) → (source_step m xs s).printed ≡ s.printed ++ byte ∷ [] → prints_then m xs s ≡ byte ∷ []
prints_one m xs s byte e = ap (drop (length s.printed)) e ∙ drop_front s.printed (byte ∷ [])

module _ (m : Module) (n : ℕ) (input input2 : SourceTold) (out out2 : SinkTold) where
  reached_at : (xs : List ℕ) (k : ℕ) → Exchanges (state_after m xs k) xs input2 out out2 → Reached (module_course m xs k) input2 out out2
  unfolding module_course
  reached_at xs k h = record { left = h.left; written = h.written; total = h.total }

  cut_by_input : (xs : List ℕ) (k : ℕ) → k < n → AsksIn m (state_after m xs k) → Exchanges (state_after m xs k) xs input2 out out2 → IsCutByInput (module_course m) n xs input2 out out2
  unfolding module_course
  cut_by_input xs k early asks h = record { steps = k; early = early; asks = takes_one m (state_after m xs k) asks; reached = reached_at xs k h }

  cut_by_output : (xs : List ℕ) (k : ℕ) → k < n → PrintsPart m xs (state_after m xs k) input2 out out2 → IsCutByOutput (module_course m) n xs input2 out out2
  unfolding module_course
  cut_by_output xs k early h =
      let s = state_after m xs k in
      let is : prints_then m xs s ≡ h.byte ∷ [] = prints_one m xs s h.byte h.prints in
      record {
        steps = k;
        early = early;
        some = subst (λ (p : List ℕ). 0 < length p) (sym is) (omega arith);
        left = h.left;
        part = h.written.0;
        begins = subst (λ (p : List ℕ). IsPrefixOf h.written.0 p) (sym is) h.written.1.0;
        written = h.written.1.1;
        count = h.total.0;
        few = subst (λ (p : List ℕ). h.total.0 ≤ length p) (sym is) h.total.1.0;
        total = h.total.1.1;
      }

  cut_by_memory : (xs : List ℕ) → IsCutOff m xs n input2 out out2 fault.NoMemory → IsCutByMemory (module_course m) n xs input2 out out2 ⊎ IsCutByOutput (module_course m) n xs input2 out out2
  cut_by_memory xs (k, (early, inl h)) = inl (record { steps = k; early = early; reached = reached_at xs k h })
  cut_by_memory xs (k, (early, inr h)) = inr (cut_by_output xs k early h)

  -- the run stands so after n steps
  pub stands : (is : IrOutcome) (outcome : Outcome) → outcome_ending is ≡ ending_from outcome → Evaluated m n input input2 out out2 (Ok is) → WhereRead AreBytes input (λ xs. IsRun (module_course m) n xs outcome input2 out out2)
  unfolding Evaluated module_course
  stands is outcome same h xs e bytes = let s = h xs bytes e in record { ending = s.ending ∙ same; reached = reached_at xs n s.outside }

  -- a run that was cut off
  pub cut_off : (T : Type 0) (e : RunFault) → Charged {T = T} input input2 out out2 (Err e) → Evaluated m n input input2 out out2 (Err e) → Streams AreBytes (module_course m) n input input2 out out2 (run_answer (Err e))
  unfolding Evaluated
  cut_off T fault.Input charged h = (charged.0, λ xs e bytes. let c = h xs bytes e in cut_by_input xs c.0 c.1.0 c.1.1.0 c.1.1.1)
  cut_off T fault.Output charged h = (charged.1, λ xs e bytes. let c = h xs bytes e in cut_by_output xs c.0 c.1.0 c.1.1)
  cut_off T fault.NoMemory charged (inl h) = inl h
  cut_off T fault.NoMemory charged (inr h) = inr (λ xs e bytes. cut_by_memory xs (h xs bytes e))
