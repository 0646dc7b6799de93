-- When one system follows another step by step. Nothing is asked of what a stretch shows between its two ends.
use Rattle.std.specs.Prelude.{◌≡◌, ℕ, ◌<◌, ◌≤◌, ◌⊎◌}
use Rattle.behavior.specs.Moment.{Agrees, IsLeft, IsGoing, HasStopped}
use Rattle.behavior.specs.System.{iter, System, IsGradual}

-- some number of steps, from least to most, lead from b to c
pub record Comes {T : Type 0} (g : T → T) (least most : ℕ) (b c : T) : Type 0 where
  pub count : ℕ
  pub low : least ≤ count
  pub high : count ≤ most
  pub arrives : iter g count b ≡ c

-- where a stretch ends: in related states, or, once the first system has stopped, in any state that shows the same
abbrev pub Lands : {S T : Type 0} → System S → System T → (S → T → Type 0) → S → T → Type 0
Lands A B R a b = R a b ⊎ (HasStopped (A.moment a) × Agrees (A.moment a) (B.moment b))

-- what meets the step from a to a2: at most `cost` steps from b; none only where the weight falls
pub record Met {S T : Type 0} (A : System S) (B : System T) (R : S → T → Type 0) (weight : S → ℕ) (cost : ℕ) (a a2 : S) (b : T) : Type 0 where
  pub count : ℕ
  pub within : count ≤ cost
  pub moves : (0 < count) ⊎ (weight a2 < weight a)
  pub lands : Lands A B R a2 (iter B.step count b)

-- from related states each step of a run that goes on is met, unless it leaves the meaning
pub record Follows {S T : Type 0} (A : System S) (B : System T) (R : S → T → Type 0) (weight : S → ℕ) (cost : ℕ) : Type 0 where
  pub gradual : IsGradual A
  pub shown : (a : S) (b : T) → R a b → Agrees (A.moment a) (B.moment b)
  pub step : (a : S) (b : T) → R a b → IsGoing (A.moment a) → IsLeft (A.moment (A.step a)) ⊎ Met A B R weight cost a (A.step a) b

-- the second system begins by at most `begin` steps of its own, after which the states are related
pub record Starts {S T : Type 0} (A : System S) (B : System T) (R : S → T → Type 0) (begin : ℕ) (a : S) (b : T) : Type 0 where
  pub shown : Agrees (A.moment a) (B.moment b)
  pub count : ℕ
  pub within : count ≤ begin
  pub lands : Lands A B R a (iter B.step count b)

-- the usual relation: the second state is a function of the first one and of a free rest, whose type may hold facts on both
abbrev pub Spots : {S T : Type 0} (Rest : S → Type 0) → ((a : S) → Rest a → T) → S → T → Type 0
Spots Rest spot a b = (rest : Rest a) × (b ≡ spot a rest)
