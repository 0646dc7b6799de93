-- How a step can stop a run, and answers that are a value or such a stop.
use Rattle.std.specs.Prelude.{ℕ, Result, Ok, Err, Option, Some, None}
use Rattle.behavior.specs.Ending.{Ending}
use Rattle.behavior.specs.Ending as ending
use Rattle.ir_core.specs.declared.memory.Reason.{Reason}
use Rattle.ir_core.specs.declared.memory.Reason.TheVariants.{Bounds, Dead, Constant, Unset, Mixed, Order, Equal, Callee, Overlap, Gep}

-- reasons as the numbers that endings carry
abbrev pub reason_number : Reason → ℕ
reason_number Bounds = 0
reason_number Dead = 1
reason_number Constant = 2
reason_number Unset = 3
reason_number Mixed = 4
reason_number Order = 5
reason_number Equal = 6
reason_number Callee = 7
reason_number Overlap = 8
reason_number Gep = 9

-- the number that an ending carries where a module that isn't valid has no step; it is that of no reason
abbrev pub malformed_number : ℕ
malformed_number = 10

-- how a step can stop a run; no module comes to anything else that a machine can come to
pub data Stop : Type 0 where
  -- the exit status
  Ended : (status : ℕ) → Stop
  Divide : Stop
  Trap : Stop
  Depth : Stop
  Left : (reason : Reason) → Stop
  -- where a module that isn't valid has no step
  Malformed : Stop

-- the ending of a run that is stopped so
abbrev pub ending_of : Stop → Ending
ending_of (Ended status) = ending.Ended status
ending_of Divide = ending.Divide
ending_of Trap = ending.Trap
ending_of Depth = ending.Depth
ending_of (Left reason) = ending.Left (reason_number reason)
ending_of Malformed = ending.Left malformed_number

-- how the run of a module can stand
abbrev pub IsModuleEnding : Ending → Type 0
IsModuleEnding ending.Going = Unit {0}
IsModuleEnding (ending.Ended status) = Unit {0}
IsModuleEnding ending.Divide = Unit {0}
IsModuleEnding ending.Trap = Unit {0}
IsModuleEnding ending.Depth = Unit {0}
IsModuleEnding (ending.Left reason) = Unit {0}
IsModuleEnding ending.Invalid = ⊥
IsModuleEnding ending.Breakpoint = ⊥
IsModuleEnding ending.PageFault = ⊥
IsModuleEnding ending.NoForm = ⊥
IsModuleEnding ending.NoFlag = ⊥
IsModuleEnding ending.BadCall = ⊥
IsModuleEnding ending.Strayed = ⊥

-- what a part of a step gives, or the stop to which it brings the run
abbrev pub Answer : Type 0 → Type 0
Answer A = Result A Stop

-- the second part of a step, once the first has its answer
abbrev pub and_then : {A B : Type 0} → Answer A → (A → Answer B) → Answer B
and_then (Ok a) rest = rest a
and_then (Err stop) rest = Err stop

-- what is there, or else a stop
abbrev pub found_or : {A : Type 0} → Stop → Option A → Answer A
found_or stop (Some a) = Ok a
found_or stop None = Err stop
