-- What a run shows after some steps.
use Rattle.std.specs.Prelude.{◌≡◌, ℕ, ◌<◌, List, [], ◌∷◌, true, false}
use Rattle.behavior.specs.Ending.{Ending, common, is_left, is_going}

-- the bytes printed so far, the number of input bytes taken so far, and how the run stands
pub record Moment : Type 0 where
  pub printed : List ℕ
  pub taken : ℕ
  pub ending : Ending

-- two moments show the same; this is an equivalence
pub record Agrees (a b : Moment) : Type 0 where
  pub printed : a.printed ≡ b.printed
  pub taken : a.taken ≡ b.taken
  pub ending : common a.ending ≡ common b.ending

-- the run is left
abbrev pub IsLeft : Moment → Type 0
IsLeft m = is_left m.ending ≡ true

-- the run goes on
abbrev pub IsGoing : Moment → Type 0
IsGoing m = is_going m.ending ≡ true

-- the run has stopped
abbrev pub HasStopped : Moment → Type 0
HasStopped m = is_going m.ending ≡ false

-- what a program shows, for each input after each number of steps
abbrev pub Behavior : Type 0
Behavior = List ℕ → ℕ → Moment

-- each number is that of a byte; a variable of a definition ranges over every number
abbrev pub AreBytes : List ℕ → Type 0
AreBytes [] = Unit {0}
AreBytes (b ∷ bs) = (b < 256) × AreBytes bs
