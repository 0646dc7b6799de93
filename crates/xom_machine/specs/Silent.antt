-- Steps in which the outside has no part.
use Rattle.std.specs.Prelude.{ℕ, ◌≡◌, ◌<◌, List, Option, Some, None, Result, Ok, Err}
use Rattle.behavior.specs.System.{iter}
use Rattle.x86_core.specs.Step.{State, request_of, served}
use Rattle.x86_core.specs.Machine.{machine_step}
use Rattle.xom_machine.specs.declared.step.Stop.{Stop}
use Rattle.xom_machine.specs.declared.step.Stop.TheVariants.{Done, Kernel, NoMemory}
use Rattle.xom_machine.specs.Whole.{Whole}
use Rattle.xom_machine.specs.Standing.{state_of}
use Rattle.xom_machine.specs.Calls.{Becomes}

-- what is done here is a system call
unfoldable pub CallsKernel : (State ℕ → State ℕ) → ℕ → Whole → Type 0
CallsKernel f after m = (left printed : List ℕ) (taken : ℕ) →
    served (request_of m.regs) after after (state_of m left printed taken) ≡ f (state_of m left printed taken)

-- it was done, or it is a system call, or wants memory; then nothing has changed
unfoldable pub Moved : {E : Type 0} → (State ℕ → State ℕ) → Whole → Whole → Result (Option ℕ) E → Type 0
Moved f old new (Ok None) = Becomes f old new
Moved f old new (Ok (Some after)) = (new ≡ old) × CallsKernel f after old
Moved f old new (Err e) = new ≡ old

-- so many steps lead from one to the other, whatever the outside is
unfoldable pub Silently : ℕ → Whole → Whole → Type 0
Silently k old new = (left printed : List ℕ) (taken : ℕ) → state_of new left printed taken ≡ iter machine_step k (state_of old left printed taken)

-- why k steps of n were taken
abbrev pub Stopped : Stop → ℕ → ℕ → Whole → Type 0
Stopped Done k n m = k ≡ n
Stopped (Kernel after) k n m = (k < n) × CallsKernel machine_step after m
Stopped NoMemory k n m = k < n
