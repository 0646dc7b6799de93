-- What instructions do one after another, to registers, flags and segments alone: no place occurs here.
use Rattle.std.specs.Prelude.{ℕ, List, [], ◌∷◌, Option, Some, None}
use Rattle.behavior.specs.Ending.{Ending, Divide, Invalid, Breakpoint, PageFault, NoFlag}
use Rattle.rd_num.specs.Number.{le_bytes, le_number}
use Rattle.x86_core.specs.declared.reg.Reg.{Reg}
use Rattle.x86_core.specs.declared.flags.Flags.{Flags}
use Rattle.x86_core.specs.declared.instr.Instr.{Instr}
use Rattle.x86_core.specs.declared.image.Segment.{Segment}
use Rattle.x86_core.specs.declared.effect.Access.{Access}
use Rattle.x86_core.specs.declared.effect.Access.TheVariants.{Nothing, Read, Write}
use Rattle.x86_core.specs.declared.effect.Next.{Next}
use Rattle.x86_core.specs.declared.effect.Next.TheVariants as next
use Rattle.x86_core.specs.declared.effect.Change.{Change}
use Rattle.x86_core.specs.Registers.{with_word}
use Rattle.x86_core.specs.Effect.{effect_of}
use Rattle.x86_core.specs.Memory.{read_at, write_at}
use Rattle.x86_core.specs.Step.{size_bytes}

-- what straight instructions work on
pub record Core : Type 0 where
  pub regs : List ℕ
  pub flags : Flags
  pub segments : List Segment

-- how a row of instructions goes
pub data Passage : Type 0 where
  -- each of them went on to the next one
  Through : (core : Core) → Passage
  -- one of them stopped the machine
  Stopped : (ending : Ending) → Passage
  -- one of them went elsewhere
  Away : Passage

-- a read that was refused, or the word in a register
abbrev pub loaded : Option (List ℕ) → Change → Reg → List Segment → Passage
loaded None c into segments = Stopped PageFault
loaded (Some bytes) c into segments = Through (record { regs = with_word c.regs into (le_number bytes); flags = c.flags; segments = segments })

-- a write that was refused, or the segments after it
abbrev pub stored : Option (List Segment) → Change → Passage
stored None c = Stopped PageFault
stored (Some segments) c = Through (record { regs = c.regs; flags = c.flags; segments = segments })

abbrev pub accessed : Access → Change → List Segment → Passage
accessed Nothing c segments = Through (record { regs = c.regs; flags = c.flags; segments = segments })
accessed (Read at size into) c segments = loaded (read_at segments at (size_bytes size)) c into segments
accessed (Write at size n) c segments = stored (write_at segments at (le_bytes (size_bytes size) n)) c

-- a change, by where it leads
abbrev pub passed : Next → Change → List Segment → Passage
passed next.Fall c segments = accessed c.access c segments
passed next.Divide c segments = Stopped Divide
passed next.Invalid c segments = Stopped Invalid
passed next.Breakpoint c segments = Stopped Breakpoint
passed next.NoFlag c segments = Stopped NoFlag
passed other c segments = Away

abbrev pub by_change : Change → List Segment → Passage
by_change c segments = passed c.next c segments

-- one instruction
abbrev pub ran : Instr → Core → Passage
ran i c = by_change (effect_of i c.regs c.flags) c.segments

-- the others, if the first went on
abbrev pub and_on : Passage → (Core → Passage) → Passage
and_on (Through c) others = others c
and_on (Stopped e) others = Stopped e
and_on Away others = Away

-- one after another
abbrev pub exec : List Instr → Core → Passage
exec [] c = Through c
exec (i ∷ is) c = and_on (ran i c) (exec is)
