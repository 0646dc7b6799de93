-- A step read off the instruction table alone: registers, flags, access and next place are those of the row.
use Rattle.std.specs.Prelude.{ℕ, List, Option, Some, None, ℤ}
use Rattle.behavior.specs.Ending.{Divide, Invalid, Breakpoint, PageFault, NoFlag}
use Rattle.rd_num.specs.Number.{le_bytes, le_number}
use Rattle.x86_core.specs.declared.reg.Reg.TheVariants.{Rsp, R11}
use Rattle.x86_core.specs.declared.image.Segment.{Segment}
use Rattle.x86_core.specs.declared.effect.Next.{Next}
use Rattle.x86_core.specs.declared.effect.Next.TheVariants as next
use Rattle.x86_core.specs.declared.effect.Change.{Change}
use Rattle.x86_core.specs.Registers.{word}
use Rattle.x86_core.specs.Memory.{read_at, write_at}
use Rattle.x86_core.specs.Step.{State, by_access, landed, request_of, served}

-- the row's registers and flags, at a place
abbrev pub at_place : {P : Type 0} → Change → P → State P → State P
at_place c to s = record s { regs = c.regs; flags = c.flags; place = to }

-- to the place of a word, with the row's registers and flags, or astray
abbrev pub at_word : {P : Type 0} → Option P → Change → State P → State P
at_word to c s = landed to c.regs (record s { flags = c.flags })

-- after the read of the word that a return goes to
abbrev pub back_by : {P : Type 0} → (ℕ → Option P) → Option (List ℕ) → Change → State P → State P
back_by land None c s = record s { ending = PageFault }
back_by land (Some bytes) c s = at_word (land (le_number bytes)) c s

-- after the push of a call
abbrev pub call_by : {P : Type 0} → Option (List Segment) → Change → P → State P → State P
call_by None c to s = record s { ending = PageFault }
call_by (Some segments) c to s = at_place c to (record s { segments = segments })

-- after the push of a call of a word
abbrev pub call_word_by : {P : Type 0} → Option (List Segment) → Change → Option P → State P → State P
call_word_by None c to s = record s { ending = PageFault }
call_word_by (Some segments) c to s = at_word to c (record s { segments = segments })

-- where the row leads: a call pushes at the row's rsp, and a return reads at the rsp from before it
abbrev pub led : {P : Type 0} → (ℕ → Option P) → Next → Change → P → (ℤ → P) → ℕ → State P → State P
led land next.Fall c after at back s = by_access c.access c after s
led land (next.Branch by) c after at back s = at_place c (at by) s
led land (next.Call by) c after at back s = call_by (write_at s.segments (word c.regs Rsp) (le_bytes 8 back)) c (at by) s
led land next.Return c after at back s = back_by land (read_at s.segments (word s.regs Rsp) 8) c s
led land next.ToR11 c after at back s = at_word (land (word c.regs R11)) c s
led land next.CallR11 c after at back s = call_word_by (write_at s.segments (word c.regs Rsp) (le_bytes 8 back)) c (land (word s.regs R11)) s
led land next.Kernel c after at back s = served (request_of c.regs) after back s
led land next.Divide c after at back s = record s { ending = Divide }
led land next.Invalid c after at back s = record s { ending = Invalid }
led land next.Breakpoint c after at back s = record s { ending = Breakpoint }
led land next.NoFlag c after at back s = record s { ending = NoFlag }

abbrev pub by_table : {P : Type 0} → (ℕ → Option P) → Change → P → (ℤ → P) → ℕ → State P → State P
by_table land c after at back s = led land c.next c after at back s
