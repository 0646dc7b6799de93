-- Answers of code as the answers of the parts of a step.
use Rattle.std.specs.Prelude.{◌≡◌, Result, Ok, Err}
use Rattle.ir_core.specs.Stops.{Answer}
use Rattle.ir_core.specs.Stops as stop
use Rattle.ir_core.specs.declared.stop.Stop.{Stop}
use Rattle.ir_core.specs.declared.stop.Stop.TheVariants.{Ended, Divide, Trap, Depth, Left, Malformed}

-- a stop by the word of the definition
abbrev pub stop_of : Stop → stop.Stop
stop_of (Ended status) = stop.Ended status
stop_of Divide = stop.Divide
stop_of Trap = stop.Trap
stop_of Depth = stop.Depth
stop_of (Left reason) = stop.Left reason
stop_of Malformed = stop.Malformed

-- a value, or a stop
abbrev pub answered : {A : Type 0} → Result A Stop → Answer A
answered (Ok a) = Ok a
answered (Err s) = Err (stop_of s)

-- a thing that is known, or a stop
abbrev pub answered_as : {A T : Type 0} → A → Result T Stop → Answer A
answered_as a (Ok t) = Ok a
answered_as a (Err s) = Err (stop_of s)
