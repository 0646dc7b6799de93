-- A whole run of a module.
use Rattle.std.specs.Prelude.{◌≡◌, ℕ, List, [], ◌∷◌, codes, Option, Some, None, slice_get}
use Rattle.rd_num.specs.declared.width.Width.TheVariants.{W32}
use Rattle.behavior.specs.Ending.{Ending, Going}
use Rattle.behavior.specs.Moment.{HasStopped, Behavior}
use Rattle.behavior.specs.System.{iter, AddsAtMostOne}
use Rattle.ir_core.specs.declared.module.Function.{Function}
use Rattle.ir_core.specs.declared.module.Module.{Module}
use Rattle.ir_core.specs.declared.memory.Value.{Value}
use Rattle.ir_core.specs.declared.memory.Value.TheVariants.{Num, Null}
use Rattle.ir_core.specs.Stops.{Malformed, ending_of, IsModuleEnding}
use Rattle.ir_core.specs.Memory.{Memory}
use Rattle.ir_core.specs.Globals.{first_objects}
use Rattle.ir_core.specs.State.{Frame, State, source_moment}
use Rattle.ir_core.specs.Operands.{function_number}
use Rattle.ir_core.specs.Calls.{first_frame}
use Rattle.ir_core.specs.Step.{source_step}

-- the two parameters of a `main` that has them
abbrev pub first_arguments : List Value
first_arguments = Num W32 0 ∷ Null ∷ []

-- a state at which nothing was printed or taken
abbrev pub standing : Memory → List Frame → Ending → State
standing objects frames ending = record { frames = frames; objects = objects; printed = []; taken = 0; ending = ending }

-- the first call, of the function of that number
abbrev pub start_in : Module → ℕ → Option Function → State
start_in m number (Some f) = standing (first_objects m) (first_frame number f first_arguments None ∷ []) Going
start_in m number None = standing [] [] (ending_of Malformed)

-- the first call, where there is a `main`
abbrev pub start_at : Module → Option ℕ → State
start_at m (Some number) = start_in m number (slice_get m.functions number)
start_at m None = standing [] [] (ending_of Malformed)

-- before the first instruction of `main`; a module without one, which isn't valid, is left at once
unfoldable pub source_start : Module → State
source_start m = start_at m (function_number m (codes "main"))

-- what a module shows after n steps
unfoldable pub source_run : Module → Behavior
source_run m input n = source_moment (iter (source_step m input) n (source_start m))

-- each step prints at most one byte or takes at most one, and then the run goes on
abbrev pub AddsByteByByte : Module → List ℕ → Type 0
AddsByteByByte m input = (s : State) → AddsAtMostOne (source_moment s) (source_moment (source_step m input s))

-- a run that has stopped stays as it is
abbrev pub StaysStopped : Module → List ℕ → Type 0
StaysStopped m input = (s : State) → HasStopped (source_moment s) → source_step m input s ≡ s

-- a run stands as runs of modules can, after any number of steps
abbrev pub EndsAsModules : Module → List ℕ → Type 0
EndsAsModules m input = (n : ℕ) → IsModuleEnding (source_run m input n).ending
