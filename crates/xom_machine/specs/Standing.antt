-- How a machine stands, as a state of the machine's definition, and what the outside tells.
use Rattle.std.specs.Prelude.{ℕ, ◌≡◌, List, length, Option, Some}
use Rattle.behavior.specs.Ending.{Ending}
use Rattle.behavior.specs.Ending as ending
use Rattle.rd_io.specs.Outside.{Gets, Counts}
use Rattle.rd_io.specs.Told.{SourceTold, SinkTold}
use Rattle.x86_core.specs.declared.image.MachOutcome.{MachOutcome}
use Rattle.x86_core.specs.declared.image.MachOutcome.TheVariants.{Going, Ended, Divide, Invalid, Breakpoint, PageFault, NoForm, NoFlag, BadCall}
use Rattle.x86_core.specs.Step.{State}
use Rattle.xom_machine.specs.declared.machine.Machine.{Machine}

abbrev pub ending_of : MachOutcome → Ending
ending_of Going = ending.Going
ending_of (Ended status) = ending.Ended status
ending_of Divide = ending.Divide
ending_of Invalid = ending.Invalid
ending_of Breakpoint = ending.Breakpoint
ending_of PageFault = ending.PageFault
ending_of NoForm = ending.NoForm
ending_of NoFlag = ending.NoFlag
ending_of BadCall = ending.BadCall

-- the state in which a machine stands, with the input that is left, what was printed and how much was taken
abbrev pub state_of : Machine → List ℕ → List ℕ → ℕ → State ℕ
state_of m left printed taken = record {
  regs = m.regs;
  flags = m.flags;
  place = m.next;
  segments = m.memory;
  left = left;
  printed = printed;
  taken = taken;
  ending = ending_of m.outcome;
}

-- what a source and a sink tell of bytes: the input that is left, the bytes that were written, and their number
pub record StreamsTold : Type 0 where
  pub left : Option (List ℕ)
  pub written : Option (List ℕ)
  pub total : Option ℕ

abbrev pub streams : Option (List ℕ) → Option (List ℕ) → Option ℕ → StreamsTold
streams left written total = record { left = left; written = written; total = total }

abbrev pub streams_told : SourceTold → SinkTold → StreamsTold
streams_told source sink = streams source.left sink.written sink.total

-- the machine stands as a state says, and since a time before the outside has lost and got what the state says
pub record Stands (s : State ℕ) (m : Machine) (before now : StreamsTold) : Type 0 where
  pub machine : state_of m s.left s.printed s.taken ≡ s
  pub left : now.left ≡ Some s.left
  pub written : Gets before.written now.written s.printed
  pub total : Counts before.total now.total (length s.printed)
