-- Languages and machines by what their runs have in common.
use Rattle.std.specs.Prelude.{◌≡◌, ℕ, zero, suc, ◌+◌, ◌≤◌, List, [], ◌∷◌, ◌++◌}
use Rattle.behavior.specs.Ending.{Going}
use Rattle.behavior.specs.Moment.{Moment, HasStopped, Behavior}

-- n steps, the first of them taken first
abbrev pub iter : {S : Type 0} → (S → S) → ℕ → S → S
iter f zero s = s
iter f (suc n) s = iter f n (f s)

-- the printed bytes grow at their end, and the number of bytes taken doesn't fall
pub record Grows (a b : Moment) : Type 0 where
  pub more : List ℕ
  pub printed : b.printed ≡ a.printed ++ more
  pub taken : a.taken ≤ b.taken

-- at most one byte is printed or one taken, and then the run goes on
pub data AddsAtMostOne (a b : Moment) : Type 0 where
  Silent : b.printed ≡ a.printed → b.taken ≡ a.taken → AddsAtMostOne a b
  Prints : (byte : ℕ) → b.printed ≡ a.printed ++ byte ∷ [] → b.taken ≡ a.taken → b.ending ≡ Going → AddsAtMostOne a b
  Takes : b.printed ≡ a.printed → b.taken ≡ a.taken + 1 → b.ending ≡ Going → AddsAtMostOne a b

-- how a language steps and what it shows of a state, with the two laws that every run has
pub record System (S : Type 0) : Type 0 where
  pub step : S → S
  pub moment : S → Moment
  pub grows : (s : S) → Grows (moment s) (moment (step s))
  -- a run that has stopped shows the same ever after
  pub stays : (s : S) → HasStopped (moment s) → moment (step s) ≡ moment s

-- a step prints at most one byte or takes at most one, never both, and no step that does so stops the run
abbrev pub IsGradual : {S : Type 0} → System S → Type 0
IsGradual {S} A = (s : S) → AddsAtMostOne (A.moment s) (A.moment (A.step s))

-- what the runs show, where the input gives the system and the state at the start
abbrev pub behavior_of : {S : Type 0} → (List ℕ → System S) → (List ℕ → S) → Behavior
behavior_of A start input n = (A input).moment (iter (A input).step n (start input))
