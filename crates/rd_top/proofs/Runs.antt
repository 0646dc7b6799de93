-- What the calls of a machine did, as the run of its image tells it.
use Rattle.std.proofs.Common.{◌≡◌, ℕ, ◌<◌, ◌≤◌, ◌⊎◌, List, [], ◌∷◌, length, Some, Ok, Err, refl, ◌∙◌, sym, ap, subst, inl, inr, arith}
use Rattle.behavior.specs.System.{iter}
use Rattle.rd_io.specs.Told.{SourceTold, SinkTold}
use Rattle.rd_io.specs.declared.RunFault.{RunFault}
use Rattle.rd_io.specs.declared.RunFault.TheVariants as fault
use Rattle.x86_core.specs.declared.image.Image.{Image}
use Rattle.x86_core.specs.Step.{State}
use Rattle.x86_core.specs.Machine.{machine_start, machine_step}
use Rattle.x86_core.specs.Observation.{observe}
use Rattle.xom_machine.specs.declared.machine.Machine.{Machine}
use Rattle.xom_machine.specs.Standing.{ending_of, state_of, streams_told, Stands}
use Rattle.xom_machine.specs.Calls.{Took, Charged, CutOff, IsCut, GotPart, piece_of, AsksIn}
use Rattle.watch_script.specs.ShowText.{text_of}
use Rattle.watch_script.specs.Watching.{run_to}
use Rattle.rd_top.specs.declared.answer.Outcome.{Outcome}
use Rattle.rd_top.specs.Answers.{ending_from}
use Rattle.rd_top.specs.Courses.{AnyInput, Course, IsRun, IsCutByInput, IsCutByMemory, IsCutByOutput, Streams, WhereRead, run_answer}
use Rattle.rd_top.specs.Machines.{machine_course, prints_next, takes_next, shown_after}
use Rattle.rd_top.specs.Reports.{HasTaken, StopsAtInput, StopsWithin, Reported}
use Rattle.rd_top.specs.World.{WhereTold}

-- a state with nothing done yet
abbrev fresh : List ℕ → State ℕ → State ℕ
fresh xs s = record s { left = xs; printed = []; taken = 0 }

-- before the first step nothing was taken
pub none_taken : (image : Image) (n : ℕ) (input : SourceTold) → WhereTold input (λ xs. StopsWithin (machine_course image) n xs input)
unfolding machine_course
none_taken image n input xs e = record { steps = 0; within = omega arith; took = e }

-- memory was wanting after some of the steps
stopped_before : (course : Course) (n : ℕ) (xs : List ℕ) (input2 : SourceTold) (out out2 : SinkTold) → IsCutByMemory course n xs input2 out out2 ⊎ IsCutByOutput course n xs input2 out out2 →
    StopsWithin course n xs input2
stopped_before course n xs input2 out out2 (inl c) = let early : c.steps < n = c.early in record { steps = c.steps; within = omega arith; took = c.reached.left }
stopped_before course n xs input2 out out2 (inr c) = let early : c.steps < n = c.early in record { steps = c.steps; within = omega arith; took = c.left }

module _ (image : Image) (n : ℕ) (old new : Machine) (starts : (xs : List ℕ) → state_of old xs [] 0 ≡ machine_start image xs) (input input2 : SourceTold) (out out2 : SinkTold) where
  -- the run from the start of the image
  from_start : (xs : List ℕ) (k : ℕ) → iter machine_step k (state_of old xs [] 0) ≡ run_to image xs k
  from_start xs k = ap (λ s. iter machine_step k s) (starts xs)

  stands : Took n old new (streams_told input out) (streams_told input2 out2) → (xs : List ℕ) → input.left ≡ Some xs → Stands (run_to image xs n) new (streams_told input out) (streams_told input2 out2)
  unfolding Took
  stands took xs e = subst (λ s. Stands s new (streams_told input out) (streams_told input2 out2)) (from_start xs n) (took xs e)

  pub ran : (outcome : Outcome) → ending_of new.outcome ≡ ending_from outcome → Took n old new (streams_told input out) (streams_told input2 out2) →
      WhereRead AnyInput input (λ xs. IsRun (machine_course image) n xs outcome input2 out out2)
  unfolding machine_course
  ran outcome same took xs e any =
      let h = stands took xs e in
      record {
        ending = ap (λ t. t.ending) (sym h.machine) ∙ same;
        reached = record { left = h.left; written = h.written; total = h.total };
      }

  asks_next : (s : State ℕ) → state_of new s.left s.printed s.taken ≡ s → AsksIn machine_step new → takes_next s ≡ 1
  asks_next s e asks = subst (λ t. (machine_step (fresh (0 ∷ []) t)).taken ≡ 1) e asks

  stands_alone : (s : State ℕ) → state_of new s.left s.printed s.taken ≡ s → piece_of machine_step new ≡ prints_next s
  stands_alone s e = ap (λ t. (machine_step (fresh [] t)).printed) e

  cut_by_input : CutOff n old new (streams_told input out) (streams_told input2 out2) fault.Input → WhereTold input (λ xs. IsCutByInput (machine_course image) n xs input2 out out2)
  unfolding CutOff machine_course
  cut_by_input cut xs e =
      let c = cut xs e in
      let h = subst (λ s. IsCut (streams_told input out) (streams_told input2 out2) s new fault.Input) (from_start xs c.0) c.1.1 in
      record {
        steps = c.0;
        early = c.1.0;
        asks = asks_next (run_to image xs c.0) h.1.machine h.0;
        reached = record { left = h.1.left; written = h.1.written; total = h.1.total };
      }

  got_part : (xs : List ℕ) (k : ℕ) → k < n → let s = run_to image xs k in
      (state_of new s.left s.printed s.taken ≡ s) × (input2.left ≡ Some s.left) × GotPart (streams_told input out) (streams_told input2 out2) s.printed (piece_of machine_step new) →
      IsCutByOutput (machine_course image) n xs input2 out out2
  unfolding machine_course
  got_part xs k early h =
      let s : State ℕ = run_to image xs k in
      let p = subst (λ piece. GotPart (streams_told input out) (streams_told input2 out2) s.printed piece) (stands_alone s h.0) h.2 in
      record {
        steps = k;
        early = early;
        some = p.some;
        left = h.1;
        part = p.written.0;
        begins = p.written.1.0;
        written = p.written.1.1;
        count = p.total.0;
        few = p.total.1.0;
        total = p.total.1.1;
      }

  cut_by_output : CutOff n old new (streams_told input out) (streams_told input2 out2) fault.Output → WhereTold input (λ xs. IsCutByOutput (machine_course image) n xs input2 out out2)
  unfolding CutOff
  cut_by_output cut xs e =
      let c = cut xs e in
      got_part xs c.0 c.1.0 (subst (λ s. IsCut (streams_told input out) (streams_told input2 out2) s new fault.Output) (from_start xs c.0) c.1.1)

  -- memory was wanting before the step or, in it, in the sink
  wanting : (xs : List ℕ) (k : ℕ) → k < n → IsCut (streams_told input out) (streams_told input2 out2) (run_to image xs k) new fault.NoMemory →
      IsCutByMemory (machine_course image) n xs input2 out out2 ⊎ IsCutByOutput (machine_course image) n xs input2 out out2
  unfolding machine_course
  wanting xs k early (inl h) = inl (record { steps = k; early = early; reached = record { left = h.left; written = h.written; total = h.total } })
  wanting xs k early (inr h) = inr (got_part xs k early h)

  cut_by_memory : CutOff n old new (streams_told input out) (streams_told input2 out2) fault.NoMemory →
      WhereTold input (λ xs. IsCutByMemory (machine_course image) n xs input2 out out2 ⊎ IsCutByOutput (machine_course image) n xs input2 out out2)
  unfolding CutOff
  cut_by_memory cut xs e =
      let c = cut xs e in
      wanting xs c.0 c.1.0 (subst (λ s. IsCut (streams_told input out) (streams_told input2 out2) s new fault.NoMemory) (from_start xs c.0) c.1.1)

  -- a run that was cut off
  pub cut_run : (T : Type 0) (e : RunFault) → Charged {T = T} input input2 out out2 (Err e) → CutOff n old new (streams_told input out) (streams_told input2 out2) e → Streams AnyInput (machine_course image) n input input2 out out2 (run_answer (Err e))
  cut_run T fault.Input charged cut = (charged.0, λ xs e any. cut_by_input cut xs e)
  cut_run T fault.Output charged cut = (charged.1, λ xs e any. cut_by_output cut xs e)
  cut_run T fault.NoMemory charged cut = inr (λ xs e any. cut_by_memory cut xs e)

  -- the text of the machine is that of where it stands
  pub seen_then : (text : List ℕ) → Took n old new (streams_told input out) (streams_told input2 out2) → ((left printed : List ℕ) (taken : ℕ) → text ≡ text_of (observe (state_of new left printed taken))) →
      Reported (machine_course image) n (shown_after image n) input input2 (Ok text)
  unfolding shown_after machine_course
  seen_then text took is xs e =
      let h = stands took xs e in
      let s = run_to image xs n in
      (is s.left s.printed s.taken ∙ ap (λ t. text_of (observe t)) h.machine, h.left)

  -- all steps were taken, and then memory was wanting
  pub stopped_behind : Took n old new (streams_told input out) (streams_told input2 out2) → WhereTold input (λ xs. StopsWithin (machine_course image) n xs input2)
  unfolding machine_course
  stopped_behind took xs e = record { steps = n; within = omega arith; took = (stands took xs e).left }

  -- a run that was cut off gives no text; a sink that counts doesn't fail
  pub cut_report : (T : Type 0) (e : RunFault) (text_on : List ℕ → List ℕ) → out2.faults ≡ 0 → Charged {T = T} input input2 out out2 (Err e) → CutOff n old new (streams_told input out) (streams_told input2 out2) e → Reported (machine_course image) n text_on input input2 (Err e)
  cut_report T fault.Input text_on none charged cut =
      (charged.0, λ xs e. let c = cut_by_input cut xs e in record { steps = c.steps; early = c.early; asks = c.asks; took = c.reached.left })
  cut_report T fault.Output text_on none charged cut = omega (arith, charged.1, none)
  cut_report T fault.NoMemory text_on none charged cut = λ xs e. stopped_before (machine_course image) n xs input2 out out2 (cut_by_memory cut xs e)
