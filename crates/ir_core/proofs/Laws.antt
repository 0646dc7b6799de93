-- What every run of a module has, whatever its instructions do.
use Rattle.std.proofs.Common.{◌≡◌, ◌≢◌, ℕ, ◌<◌, zero, suc, List, Option, Some, None, refl, ap, subst, false, Ok, Err, arith}
use Rattle.std.specs.Prelude.{codes, slice_get}
use Rattle.behavior.specs.Ending.{Ending, Going, Strayed, is_going}
use Rattle.behavior.specs.Moment.{HasStopped}
use Rattle.behavior.specs.System.{iter, AddsAtMostOne, Silent, Prints, Takes, System, IsGradual, behavior_of}
use Rattle.behavior.specs.Preserves.{Preserves, ReachesWithin}
use Rattle.behavior.proofs.Between.{adds_grows}
use Rattle.behavior.proofs.Follow.{AllFollow, AllStart, simulates, simulates_within}
use Rattle.ir_core.specs.declared.module.Module.{Module}
use Rattle.ir_core.specs.declared.memory.Reason.{Reason}
use Rattle.ir_core.specs.declared.memory.Reason.TheVariants.{Bounds, Dead, Constant, Unset, Mixed, Order, Equal, Callee, Overlap, Gep}
use Rattle.ir_core.specs.Memory.{Memory}
use Rattle.ir_core.specs.Stops.{Stop, Ended, Divide, Trap, Depth, Left, Malformed, Answer, ending_of, IsModuleEnding, reason_number, malformed_number}
use Rattle.ir_core.specs.State.{Frame, State, Exchange, Nothing, Print, Take, Turn, turned, source_moment}
use Rattle.ir_core.specs.Step.{turn_of, source_step}
use Rattle.ir_core.specs.declared.module.Function.{Function}
use Rattle.ir_core.specs.Operands.{function_number}
use Rattle.ir_core.specs.Run.{start_in, start_at, source_start, source_run}

-- what a turn adds
turned_adds : (s : State) (a : Answer Turn) → AddsAtMostOne (source_moment s) (source_moment (turned s a))
turned_adds s (Ok t) = exchanged t.frames t.objects t.exchange
  where
    exchanged : (frames : List Frame) (objects : Memory) (x : Exchange) → AddsAtMostOne (source_moment s) (source_moment (turned s (Ok (record { frames = frames; objects = objects; exchange = x }))))
    exchanged frames objects Nothing = Silent refl refl
    exchanged frames objects (Print byte) = Prints byte refl refl refl
    exchanged frames objects Take = Takes refl refl refl
turned_adds s (Err stop) = Silent refl refl

-- what a step adds, by the fields of the state
adds_at : (m : Module) (input : List ℕ) (frames : List Frame) (objects : Memory) (printed : List ℕ) (taken : ℕ) (ending : Ending) → let s : State = record { frames = frames; objects = objects; printed = printed; taken = taken; ending = ending } in AddsAtMostOne (source_moment s) (source_moment (source_step m input s))
unfolding source_step
adds_at m input frames objects printed taken Going =
    let s : State = record { frames = frames; objects = objects; printed = printed; taken = taken; ending = Going } in
    turned_adds s (turn_of m input s frames)
adds_at m input frames objects printed taken stopped = Silent refl refl

-- a step prints at most one byte or takes at most one, and then the run goes on
pub step_adds : (m : Module) (input : List ℕ) (s : State) → AddsAtMostOne (source_moment s) (source_moment (source_step m input s))
step_adds m input s = adds_at m input s.frames s.objects s.printed s.taken s.ending

-- a step of a run that has stopped, by the fields of the state
stays_at : (m : Module) (input : List ℕ) (frames : List Frame) (objects : Memory) (printed : List ℕ) (taken : ℕ) (ending : Ending) → is_going ending ≡ false → let s : State = record { frames = frames; objects = objects; printed = printed; taken = taken; ending = ending } in source_step m input s ≡ s
unfolding source_step
stays_at m input frames objects printed taken Going h = absurd (cc)
stays_at m input frames objects printed taken stopped h = refl

-- a run that has stopped stays as it is
pub step_stays : (m : Module) (input : List ℕ) (s : State) → HasStopped (source_moment s) → source_step m input s ≡ s
step_stays m input s h = stays_at m input s.frames s.objects s.printed s.taken s.ending h

-- what stops a run is an ending of modules
stop_ending : (x : Stop) → IsModuleEnding (ending_of x)
stop_ending (Ended status) = tt
stop_ending Divide = tt
stop_ending Trap = tt
stop_ending Depth = tt
stop_ending (Left reason) = tt
stop_ending Malformed = tt

turned_ending : (s : State) (a : Answer Turn) → IsModuleEnding (turned s a).ending
turned_ending s (Ok t) = tt
turned_ending s (Err stop) = stop_ending stop

-- so a step leads from an ending of modules to one, by the fields of the state
ending_at : (m : Module) (input : List ℕ) (frames : List Frame) (objects : Memory) (printed : List ℕ) (taken : ℕ) (ending : Ending) → IsModuleEnding ending → let s : State = record { frames = frames; objects = objects; printed = printed; taken = taken; ending = ending } in IsModuleEnding (source_step m input s).ending
unfolding source_step
ending_at m input frames objects printed taken Going h =
    let s : State = record { frames = frames; objects = objects; printed = printed; taken = taken; ending = Going } in
    turned_ending s (turn_of m input s frames)
ending_at m input frames objects printed taken stopped h = h

steps_ending : (m : Module) (input : List ℕ) (n : ℕ) (s : State) → IsModuleEnding s.ending → IsModuleEnding (iter (source_step m input) n s).ending
steps_ending m input zero s h = h
steps_ending m input (suc n) s h = steps_ending m input n (source_step m input s) (ending_at m input s.frames s.objects s.printed s.taken s.ending h)

in_ending : (m : Module) (number : ℕ) (f : Option Function) → IsModuleEnding (start_in m number f).ending
in_ending m number (Some f) = tt
in_ending m number None = tt

start_ending : (m : Module) (number : Option ℕ) → IsModuleEnding (start_at m number).ending
start_ending m (Some number) = in_ending m number (slice_get m.functions number)
start_ending m None = tt

-- a run stands as modules can
pub run_ending : (m : Module) (input : List ℕ) (n : ℕ) → IsModuleEnding (source_run m input n).ending
unfolding source_run source_start
run_ending m input n = steps_ending m input n (start_at m (function_number m (codes "main"))) (start_ending m (function_number m (codes "main")))

-- no reason has the number of an ill-formed module
pub reason_apart : (r : Reason) → reason_number r < malformed_number
reason_apart Bounds = omega arith
reason_apart Dead = omega arith
reason_apart Constant = omega arith
reason_apart Unset = omega arith
reason_apart Mixed = omega arith
reason_apart Order = omega arith
reason_apart Equal = omega arith
reason_apart Callee = omega arith
reason_apart Overlap = omega arith
reason_apart Gep = omega arith

-- so none strays
pub run_straight : (m : Module) (input : List ℕ) (n : ℕ) → (source_run m input n).ending ≢ Strayed
run_straight m input n e = subst IsModuleEnding e (run_ending m input n)

-- modules as a system, for simulations that begin or end in them
abbrev pub source_system : Module → List ℕ → System State
source_system m input = record {
  step = source_step m input;
  moment = source_moment;
  grows = λ s. adds_grows (source_moment s) (source_moment (source_step m input s)) (step_adds m input s);
  stays = λ s h. ap source_moment (step_stays m input s h);
}

-- each step of it adds at most one byte
pub source_gradual : (m : Module) (input : List ℕ) → IsGradual (source_system m input)
source_gradual m input s = step_adds m input s

-- a run of a module is what the system shows from the start on
pub source_run-system : (m : Module) → source_run m ≡ behavior_of (source_system m) (λ input. source_start m)
unfolding source_run
source_run-system m = refl

-- a system that follows a module from its start on means the same
module _ {T : Type 0} (m : Module) (B : List ℕ → System T) (b : List ℕ → T) (R : List ℕ → State → T → Type 0) (weight : List ℕ → State → ℕ) (begin cost : ℕ) where
  -- every step of the module is met, whatever the input
  abbrev pub FollowsModule : Type 0
  FollowsModule = AllFollow (source_system m) B (λ input. source_start m) b R weight begin cost

  -- from the start of a run on
  abbrev pub StartsModule : Type 0
  StartsModule = AllStart (source_system m) B (λ input. source_start m) b R weight begin cost

  pub module_simulates : FollowsModule → StartsModule → Preserves (source_run m) (behavior_of B b)
  unfolding source_run
  module_simulates follows starts = simulates (source_system m) B (λ input. source_start m) b R weight begin cost follows starts

  pub module_simulates_within : FollowsModule → StartsModule → ReachesWithin begin cost (source_run m) (behavior_of B b)
  unfolding source_run
  module_simulates_within follows starts = simulates_within (source_system m) B (λ input. source_start m) b R weight begin cost follows starts
