-- How a run stands, by the words of the definitions of runs.
use Rattle.std.specs.Prelude.{Option, Some, None, Result, Ok, Err}
use Rattle.behavior.specs.Ending.{Ending}
use Rattle.behavior.specs.Ending as ending
use Rattle.rd_io.specs.declared.RunFault.{RunFault}
use Rattle.rd_io.specs.declared.RunFault.TheVariants as fault
use Rattle.ir_core.specs.Stops.{reason_number}
use Rattle.ir_core.specs.declared.stop.Stop.{Stop}
use Rattle.ir_core.specs.declared.stop.Stop.TheVariants as stop
use Rattle.ir_eval.specs.declared.outcome.IrOutcome.{IrOutcome}
use Rattle.ir_eval.specs.declared.outcome.IrOutcome.TheVariants.{Going, Ended, Divide, Trap, Depth, Left}

-- the ending of a run that stands so
abbrev pub outcome_ending : IrOutcome → Ending
outcome_ending Going = ending.Going
outcome_ending (Ended status) = ending.Ended status
outcome_ending Divide = ending.Divide
outcome_ending Trap = ending.Trap
outcome_ending Depth = ending.Depth
outcome_ending (Left reason) = ending.Left (reason_number reason)

-- how a run stands after the stop to which it came, or none; a valid module comes to no malformed one
abbrev pub outcome_after : Option Stop → Result IrOutcome RunFault
outcome_after None = Ok Going
outcome_after (Some (stop.Ended status)) = Ok (Ended status)
outcome_after (Some stop.Divide) = Ok Divide
outcome_after (Some stop.Trap) = Ok Trap
outcome_after (Some stop.Depth) = Ok Depth
outcome_after (Some (stop.Left reason)) = Ok (Left reason)
outcome_after (Some stop.Malformed) = Err fault.NoMemory
