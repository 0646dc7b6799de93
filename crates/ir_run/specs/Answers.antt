-- Answers of code that may want memory, as the answers of the parts of a step.
use Rattle.std.specs.Prelude.{◌≡◌, List, [], ◌∷◌, ◌++◌, Result, Ok, Err}
use Rattle.ir_core.specs.declared.memory.Value.{Value}
use Rattle.ir_core.specs.Stops.{Answer}
use Rattle.ir_core.specs.Answers.{stop_of}
use Rattle.ir_run.specs.declared.fault.Fault.{Fault}
use Rattle.ir_run.specs.declared.fault.Fault.TheVariants as fault
use Rattle.ir_run.specs.declared.state.State.{State}
use Rattle.ir_run.specs.declared.state.Asked.{Asked}
use Rattle.ir_run.specs.Turns.{Turned, turned}

-- a thing that is known, or a stop; where memory is wanting nothing is said
abbrev pub Tells : {A T : Type 0} → A → Answer A → Result T Fault → Type 0
Tells a expected (Ok t) = Ok a ≡ expected
Tells a expected (Err (fault.Stop stop)) = Err (stop_of stop) ≡ expected
Tells a expected (Err fault.NoMemory) = Unit {0}

-- a state, with what is asked of the outside
abbrev pub Turns : State → Answer Turned → Result Asked Fault → Type 0
Turns s expected (Ok asked) = Ok (turned s asked) ≡ expected
Turns s expected (Err (fault.Stop stop)) = Err (stop_of stop) ≡ expected
Turns s expected (Err fault.NoMemory) = Unit {0}

-- one more value behind others, or a stop
abbrev pub Puts : {T : Type 0} → List Value → List Value → Answer Value → Result T Fault → Type 0
Puts before now expected (Ok t) = (v : Value) × (Ok v ≡ expected) × (now ≡ before ++ v ∷ [])
Puts before now expected (Err (fault.Stop stop)) = Err (stop_of stop) ≡ expected
Puts before now expected (Err fault.NoMemory) = Unit {0}
