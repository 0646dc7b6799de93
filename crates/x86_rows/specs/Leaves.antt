-- What is left of a core after an instruction, part by part.
use Rattle.std.specs.Prelude.{ℕ, List}
use Rattle.x86_core.specs.declared.reg.Reg.{Reg}
use Rattle.x86_core.specs.declared.image.Segment.{Segment}
use Rattle.x86_core.specs.declared.effect.Change.{Change}
use Rattle.x86_core.specs.Registers.{with_word}
use Rattle.x86_rows.specs.Straight.{Core}

-- with other words in the registers, flags as they were
abbrev pub with_regs : Core → List ℕ → Core
with_regs c regs = record c { regs = regs }

-- with another word in one register
abbrev pub with_reg : Core → Reg → ℕ → Core
with_reg c d n = record c { regs = with_word c.regs d n }

-- with other bytes in memory
abbrev pub with_segments : Core → List Segment → Core
with_segments c segments = record c { segments = segments }

-- with the registers and flags of a change
abbrev pub by_effect : Change → Core → Core
by_effect change c = record c { regs = change.regs; flags = change.flags }
