-- Behavior preservation: when a second program means what a first one means.
use Rattle.std.specs.Prelude.{◌≡◌, ℕ, ◌+◌, ◌*◌, ◌≤◌, List, false, ◌⊎◌}
use Rattle.behavior.specs.Ending.{is_left}
use Rattle.behavior.specs.Moment.{Agrees, IsLeft, Behavior, AreBytes}

-- Both directions. Nothing is said of B past the point where A is Left.
-- In the second the choice stands behind the number of steps: whether a run is ever Left can't be decided, but what it
-- shows in n steps can. "A is Left at some k" doesn't mention n, so with excluded middle the order makes no difference.
pub record Preserves (A B : Behavior) : Type 0 where
  -- what A shows, B shows
  pub reaches : (input : List ℕ) → AreBytes input → (k : ℕ) → is_left (A input k).ending ≡ false → (n : ℕ) × Agrees (A input k) (B input n)
  -- what B shows, A shows, unless A leaves its meaning
  pub only : (input : List ℕ) → AreBytes input → (n : ℕ) → ((k : ℕ) × IsLeft (A input k)) ⊎ ((k : ℕ) × Agrees (A input k) (B input n))

-- the first direction with a bound: what A shows after k steps, B shows after at most begin + cost * k
abbrev pub ReachesWithin : ℕ → ℕ → Behavior → Behavior → Type 0
ReachesWithin begin cost A B = (input : List ℕ) → AreBytes input → (k : ℕ) → is_left (A input k).ending ≡ false → (n : ℕ) × (n ≤ begin + cost * k) × Agrees (A input k) (B input n)
