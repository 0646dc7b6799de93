-- What watching a run does: its answers, and what the input has lost.
use Rattle.std.specs.Prelude.{◌≡◌, ℕ, ◌<◌, ◌≤◌, List, [], ◌∷◌, Option, Some, Result, Ok, Err}
use Rattle.behavior.specs.System.{iter}
use Rattle.rd_io.specs.Causes.{Rose}
use Rattle.rd_io.specs.declared.RunFault.{RunFault}
use Rattle.rd_io.specs.declared.RunFault.TheVariants as fault
use Rattle.x86_core.specs.declared.image.Image.{Image}
use Rattle.x86_core.specs.Step.{State}
use Rattle.x86_core.specs.Run.{Act, run_over}
use Rattle.x86_core.specs.Machine.{machine_start, machine_step, machine_run}
use Rattle.xom_machine.specs.declared.machine.Machine.{Machine}
use Rattle.xom_machine.specs.Standing.{state_of, StreamsTold, Stands}
use Rattle.watch_script.specs.declared.event.Event.{Event}
use Rattle.watch_script.specs.declared.report.Report.{Report}
use Rattle.watch_script.specs.Acts.{acts_to}
use Rattle.watch_script.specs.Events.{last_after}
use Rattle.watch_script.specs.Report.{IsReport, last_of}

-- the machine of an image, from its start, after a number of instructions
abbrev pub run_to : Image → List ℕ → ℕ → State ℕ
run_to image xs n = iter machine_step n (machine_start image xs)

-- the same with a script's events, each after its number of instructions
abbrev pub watched_to : Image → List Event → List ℕ → ℕ → State ℕ
watched_to image events xs n = machine_run image xs (acts_to n events)

-- so many acts led from one machine to another, where the input is told
unfoldable pub Acted : List Act → Machine → Machine → StreamsTold → StreamsTold → Type 0
Acted acts old new before now = (xs : List ℕ) → before.left ≡ Some xs → Stands (run_over machine_step acts (state_of old xs [] 0)) new before now

-- the next instruction takes a byte, where one is left
abbrev pub TakesByte : State ℕ → Type 0
TakesByte s = (machine_step (record s { left = 0 ∷ []; printed = []; taken = 0 })).taken ≡ 1

-- a run of n instructions, with its states, stopped at one that takes a byte, and the input has lost what was taken before
pub record AtInput (at : ℕ → State ℕ) (n : ℕ) (left2 : Option (List ℕ)) : Type 0 where
  pub taken : ℕ
  pub early : taken < n
  pub asks : TakesByte (at taken)
  pub took : left2 ≡ Some (at taken).left

-- it stopped after some of them
pub record Within (at : ℕ → State ℕ) (n : ℕ) (left2 : Option (List ℕ)) : Type 0 where
  pub taken : ℕ
  pub within : taken ≤ n
  pub took : left2 ≡ Some (at taken).left

-- how far a run came that a fault cut off; the output doesn't fail, since nobody gets it
abbrev pub Halted : (ℕ → State ℕ) → ℕ → Option (List ℕ) → RunFault → Type 0
Halted at n left2 fault.Input = AtInput at n left2
Halted at n left2 fault.Output = ⊥
Halted at n left2 fault.NoMemory = Within at n left2

-- a report on the run of the image with these events, or how far it came
abbrev pub WatchedOf : Image → List Event → Option (List ℕ) → Option (List ℕ) → Result Report RunFault → Type 0
WatchedOf image events left left2 (Ok report) = (xs : List ℕ) → left ≡ Some xs → IsReport (machine_run image xs) events report × (left2 ≡ Some (last_of (machine_run image xs) events).left)
WatchedOf image events left left2 (Err e) = (xs : List ℕ) → left ≡ Some xs → Halted (watched_to image events xs) (last_after 0 events) left2 e

-- the count of the input's faults rises where the answer says so, and nowhere else
abbrev pub InputCharged : {T : Type 0} → ℕ → ℕ → Result T RunFault → Type 0
InputCharged before now (Ok x) = now ≡ before
InputCharged before now (Err fault.Input) = Rose before now × (before ≤ now)
InputCharged before now (Err fault.Output) = ⊥
InputCharged before now (Err fault.NoMemory) = now ≡ before
