-- What a run of a valid module's program came to tells how the run of the module stands.
use Rattle.std.proofs.Common.{◌≡◌, ℕ, List, Option, Some, None, Result, Ok, Err, refl, subst, inl, inr}
use Rattle.behavior.specs.Moment.{AreBytes}
use Rattle.rd_io.specs.Told.{SourceTold, SinkTold}
use Rattle.rd_io.specs.declared.RunFault.{RunFault}
use Rattle.rd_io.specs.declared.RunFault.TheVariants as fault
use Rattle.ir_core.specs.declared.module.Module.{Module}
use Rattle.ir_core.specs.Stops.{ending_of}
use Rattle.ir_core.specs.Memory.{Memory}
use Rattle.ir_core.specs.Globals.{first_objects}
use Rattle.ir_core.specs.Refusals.{IsValid}
use Rattle.ir_core.specs.declared.stop.Stop.{Stop}
use Rattle.ir_core.specs.declared.stop.Stop.TheVariants.{Ended, Divide, Trap, Depth, Left, Malformed}
use Rattle.ir_core.specs.Answers.{stop_of}
use Rattle.ir_program.specs.declared.program.Program.{Program}
use Rattle.ir_program.specs.Programs.{program_of}
use Rattle.ir_run.specs.declared.state.State.{State}
use Rattle.ir_run.specs.Runs.{state_after, Exchanges, IsRun, Ran}
use Rattle.ir_run.specs.Starts.{Starts}
use Rattle.ir_sound.specs.Typed.{IsTyped}
use Rattle.ir_sound.proofs.Steps.{states_are}
use Rattle.ir_sound.proofs.ValidTyped.{valid_typed}
use Rattle.ir_eval.specs.declared.outcome.IrOutcome.{IrOutcome}
use Rattle.ir_eval.specs.Outcomes.{outcome_after}
use Rattle.ir_eval.specs.Evaluated.{Evaluated}
use Rattle.ir_eval.proofs.AgreeLaws.{valid_agrees}
use Rattle.ir_eval.proofs.FillLaws.{never_wide}
use Rattle.ir_globals.proofs.ValidLaws.{known_valid}

module _ (m : Module) (n : ℕ) (a a2 : SourceTold) (b b2 : SinkTold) (typed : IsTyped m) where
  -- what a run did, where bytes are told
  abbrev Run : Result (Option Stop) RunFault → Type 0
  Run r = (input : List ℕ) → AreBytes input → a.left ≡ Some input → IsRun m input n a2 b b2 r

  -- a run came to a stop
  stop_is : (input : List ℕ) → AreBytes input → (s : Stop) → IsRun m input n a2 b b2 (Ok (Some s)) → ((state_after m input n).ending ≡ ending_of (stop_of s)) × Exchanges (state_after m input n) input a2 b b2
  stop_is input bytes s (inl h) = h
  stop_is input bytes s (inr h) = absurd (never_wide m input h.1.0 typed bytes h.1.1.1)

  -- a run
  outcome_is : (o : Option Stop) → Run (Ok o) → Evaluated m n a a2 b b2 (outcome_after o)
  unfolding Evaluated
  outcome_is None run = λ input bytes left. let r = run input bytes left in record { ending = r.0; outside = r.1 }
  outcome_is (Some (Ended status)) run = λ input bytes left. let r = stop_is input bytes (Ended status) (run input bytes left) in record { ending = r.0; outside = r.1 }
  outcome_is (Some Divide) run = λ input bytes left. let r = stop_is input bytes Divide (run input bytes left) in record { ending = r.0; outside = r.1 }
  outcome_is (Some Trap) run = λ input bytes left. let r = stop_is input bytes Trap (run input bytes left) in record { ending = r.0; outside = r.1 }
  outcome_is (Some Depth) run = λ input bytes left. let r = stop_is input bytes Depth (run input bytes left) in record { ending = r.0; outside = r.1 }
  outcome_is (Some (Left reason)) run = λ input bytes left. let r = stop_is input bytes (Left reason) (run input bytes left) in record { ending = r.0; outside = r.1 }
  outcome_is (Some Malformed) run = inr (λ input bytes left. absurd ((states_are m input n bytes typed).1 (stop_is input bytes Malformed (run input bytes left)).0))

  -- a run that was cut off
  cut_is : (e : RunFault) → Run (Err e) → Evaluated m n a a2 b b2 (Err e)
  unfolding Evaluated
  cut_is fault.Input run = run
  cut_is fault.Output run = run
  cut_is fault.NoMemory run = inr run

-- what was run from the first state
pub ran_evaluated : (p : Program) (memory : Memory) (st : State) (n : ℕ) (a a2 : SourceTold) (b b2 : SinkTold) (o : Option Stop) → Starts p memory (Some st) → Ran p st n a a2 b b2 (Ok o) → (m : Module) → IsValid m → p ≡ program_of m → memory ≡ first_objects m → Evaluated m n a a2 b b2 (outcome_after o)
unfolding Starts Ran
ran_evaluated p memory st n a a2 b b2 o starts ran m valid is first =
    outcome_is m n a a2 b b2 (valid_typed m valid) o (λ input bytes left. ran m input (valid_agrees m valid) is (starts m is first) left)

-- what was cut off
pub cut_evaluated : (p : Program) (memory : Memory) (st : State) (n : ℕ) (a a2 : SourceTold) (b b2 : SinkTold) (e : RunFault) → Starts p memory (Some st) → Ran p st n a a2 b b2 (Err e) → (m : Module) → IsValid m → p ≡ program_of m → memory ≡ first_objects m → Evaluated m n a a2 b b2 (Err e)
unfolding Starts Ran
cut_evaluated p memory st n a a2 b b2 e starts ran m valid is first =
    cut_is m n a a2 b b2 (valid_typed m valid) e (λ input bytes left. ran m input (valid_agrees m valid) is (starts m is first) left)

-- want of memory before the run
pub wanting_evaluated : (m : Module) (n : ℕ) (a : SourceTold) (b : SinkTold) → Evaluated m n a a b b (Err fault.NoMemory)
unfolding Evaluated
wanting_evaluated m n a b = inl (refl, refl)

-- what holds of a valid module holds of the module that is kept
pub kept_evaluated : (whole kept : Module) (p : Program) (memory : Memory) (n : ℕ) (a a2 : SourceTold) (b b2 : SinkTold) (r : Result IrOutcome RunFault) → ∥ IsValid whole ∥₁ → whole ≡ kept → p ≡ program_of whole → memory ≡ first_objects whole
    → ((m : Module) → IsValid m → p ≡ program_of m → memory ≡ first_objects m → Evaluated m n a a2 b b2 r) → Evaluated kept n a a2 b b2 r
kept_evaluated whole kept p memory n a a2 b b2 r known same is first evaluated =
    subst (λ (m : Module). Evaluated m n a a2 b b2 r) same (evaluated whole (known_valid whole known) is first)
