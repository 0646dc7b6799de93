-- A run that has strayed stays so, whatever is done to it.
use Rattle.std.proofs.Common.{◌≡◌, ℕ, zero, suc, ◌+◌, ◌-◌, ◌≤◌, List, [], ◌∷◌, ◌++◌, Option, Some, None, refl, sym, ◌∙◌, ap, arith}
use Rattle.behavior.specs.Ending.{Strayed, if_going}
use Rattle.behavior.specs.System.{iter}
use Rattle.behavior.proofs.Between.{iter_add}
use Rattle.x86_core.specs.declared.image.Segment.{Segment}
use Rattle.x86_core.specs.Memory.{write_at}
use Rattle.x86_core.specs.Step.{State, act}
use Rattle.x86_core.specs.Run.{Act, Step, Write, wrote, acted, run_over}
use Rattle.x86_core.proofs.Acts.{run_over-append}
use Rattle.obj_core.specs.declared.object.Object.{Object}
use Rattle.obj_core.specs.declared.object.Place.{Place}
use Rattle.obj_core.specs.SymbolicMachine.{symbolic_fetch, symbolic_land, symbolic_step, symbolic_start, symbolic_run, symbolic_behavior}

-- a write changes no ending
wrote_ending : (x : Option (List Segment)) (a : State Place) → (wrote x a).ending ≡ a.ending
wrote_ending None a = refl
wrote_ending (Some segments) a = refl

module _ (o : Object) where
  -- a step on it
  strayed_step : (a : State Place) → a.ending ≡ Strayed → (symbolic_step o a).ending ≡ Strayed
  strayed_step a h = ap (λ e. (if_going e (act (symbolic_land o) (symbolic_fetch o a.place) a) a).ending) h ∙ h

  -- an act on it
  strayed_act : (x : Act) (a : State Place) → a.ending ≡ Strayed → (acted (symbolic_step o) x a).ending ≡ Strayed
  strayed_act Step a h = strayed_step a h
  strayed_act (Write at []) a h = h
  strayed_act (Write at (n ∷ ns)) a h = wrote_ending (write_at a.segments at (n ∷ ns)) a ∙ h

  -- any list of acts on it
  pub strayed_over : (acts : List Act) (a : State Place) → a.ending ≡ Strayed → (run_over (symbolic_step o) acts a).ending ≡ Strayed
  strayed_over [] a h = h
  strayed_over (x ∷ acts) a h = strayed_over acts (acted (symbolic_step o) x a) (strayed_act x a h)

  -- any number of steps of it
  strayed_along : (n : ℕ) (a : State Place) → a.ending ≡ Strayed → (iter (symbolic_step o) n a).ending ≡ Strayed
  strayed_along zero a h = h
  strayed_along (suc n) a h = strayed_along n (symbolic_step o a) (strayed_step a h)

  -- after more acts
  pub strays_after_acts : (input : List ℕ) (acts more : List Act) → (symbolic_run o input acts).ending ≡ Strayed → (symbolic_run o input (acts ++ more)).ending ≡ Strayed
  strays_after_acts input acts more h =
      ap (λ (s : State Place). s.ending) (run_over-append (symbolic_step o) acts more (symbolic_start o input)) ∙ strayed_over more (symbolic_run o input acts) h

  -- after more steps
  pub strays_after_steps : (input : List ℕ) (n m : ℕ) → n ≤ m → (symbolic_behavior o input n).ending ≡ Strayed → (symbolic_behavior o input m).ending ≡ Strayed
  strays_after_steps input n m le h =
      let more : m ≡ n + (m - n) = omega (arith, le) in
      ap (λ k. (symbolic_behavior o input k).ending) more ∙
      sym (ap (λ (s : State Place). s.ending) (iter_add (symbolic_step o) n (m - n) (symbolic_start o input))) ∙
      strayed_along (m - n) (iter (symbolic_step o) n (symbolic_start o input)) h
