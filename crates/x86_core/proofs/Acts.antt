-- Lists of acts: one behind another, and steps alone.
use Rattle.std.proofs.Common.{◌≡◌, ℕ, zero, suc, List, [], ◌∷◌, ◌++◌, refl}
use Rattle.std.specs.Prelude.{replicate}
use Rattle.behavior.specs.System.{iter}
use Rattle.x86_core.specs.Step.{State}
use Rattle.x86_core.specs.Run.{Act, Step, acted, run_over}

module _ {P : Type 0} (step : State P → State P) where
  -- acts, and more of them
  pub run_over-append : (acts more : List Act) (s : State P) → run_over step (acts ++ more) s ≡ run_over step more (run_over step acts s)
  run_over-append [] more s = refl
  run_over-append (a ∷ acts) more s = run_over-append acts more (acted step a s)

  -- n steps are n acts
  pub steps_are_acts : (n : ℕ) (s : State P) → run_over step (replicate n Step) s ≡ iter step n s
  steps_are_acts zero s = refl
  steps_are_acts (suc n) s = steps_are_acts n (step s)
