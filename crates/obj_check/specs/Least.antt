-- The least of offsets, and how a rule that fails is told.
use Rattle.std.specs.Prelude.{ℕ, min, List, [], ◌∷◌, Option, Some, None}
use Rattle.obj_core.specs.WellFormed.{Spot, Whole, Function, OfSlot, Violation}
use Rattle.obj_check.specs.declared.fault.ShapeSpot.{ShapeSpot}
use Rattle.obj_check.specs.declared.fault.Broken.{Broken}

-- the least of the offsets before and of this one
abbrev pub lesser_of : Option ℕ → ℕ → Option ℕ
lesser_of None m = Some m
lesser_of (Some n) m = Some (min n m)

-- the least of the offsets before and of these
abbrev pub least_with : Option ℕ → List ℕ → Option ℕ
least_with least [] = least
least_with least (m ∷ ms) = least_with (lesser_of least m) ms

abbrev pub spot_of : ShapeSpot → Spot
spot_of ShapeSpot.Whole = Whole
spot_of (ShapeSpot.Function n) = Function n
spot_of (ShapeSpot.Slot k) = OfSlot k

abbrev pub violation_of : Broken → Violation
violation_of b = record { rule = b.rule; spot = spot_of b.spot; offset = b.offset }

abbrev pub as_violation : Option Broken → Option Violation
as_violation None = None
as_violation (Some b) = Some (violation_of b)
