-- A machine in one piece: a context with the memory that it runs over.
use Rattle.std.specs.Prelude.{ℕ, List}
use Rattle.x86_core.specs.declared.flags.Flags.{Flags}
use Rattle.x86_core.specs.declared.image.Segment.{Segment}
use Rattle.x86_core.specs.declared.image.MachOutcome.{MachOutcome}
use Rattle.xom_machine.specs.declared.context.Context.{Context}

pub record Whole : Type 0 where
  pub memory : List Segment
  pub regs : List ℕ
  pub flags : Flags
  pub next : ℕ
  pub outcome : MachOutcome

abbrev pub over : Context → List Segment → Whole
over c memory = record { memory = memory; regs = c.regs; flags = c.flags; next = c.next; outcome = c.outcome }
