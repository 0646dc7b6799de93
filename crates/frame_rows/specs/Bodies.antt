-- What rows are given: homes by a list, and addresses of globals and of functions.
use Rattle.std.specs.Prelude.{ℕ, ◌+◌, ◌*◌, ◌<◌, ◌^◌, List, [], Option, Some, None, slice_get}
use Rattle.low_core.specs.declared.sel.SelOp.{SelOp}
use Rattle.low_core.specs.declared.sel.SelOp.TheVariants.{FrameAt}
use Rattle.low_core.specs.Plan.{Plan}
use Rattle.frame_rows.specs.declared.spot.Spot.{Spot}
use Rattle.frame_rows.specs.declared.spot.Spot.TheVariants.{Own, Frame}

-- a displacement reaches the home
abbrev pub IsNear : Spot → Type 0
IsNear (Own r) = Unit {0}
IsNear (Frame k) = 8 * k < 2 ^ 31

-- a home, or the lowest word of the frame
abbrev pub or_lowest : Option Spot → Spot
or_lowest (Some h) = h
or_lowest None = Frame 0

abbrev pub spot_of : List Spot → ℕ → Spot
spot_of homes x = or_lowest (slice_get homes x)

abbrev pub AreNear : List Spot → Type 0
AreNear homes = (x : ℕ) → IsNear (spot_of homes x)

-- a displacement reaches the place that an operation asks for
abbrev pub Reaches : ℕ → SelOp → Type 0
Reaches own (FrameAt r at) = own + at < 2 ^ 31
Reaches own other = Unit {0}

-- addresses alone
abbrev pub addresses_of : List ℕ → List ℕ → Plan
addresses_of globals functions = record { globals = globals; functions = functions; frames = [] }
