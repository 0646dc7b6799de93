-- One step, over any kind of place. What stands at a place comes from outside, with every place that the step may
-- come to. So the machine with addresses and the machine of an object differ by what they fetch and by where a word
-- leads, and share all that an instruction does.
use Rattle.std.specs.Prelude.{ℕ, ◌+◌, ◌-◌, ◌*◌, ◌/◌, ◌%◌, ◌^◌, Bool, true, false, ◌&&◌, nat_eq, min, if◌then◌else◌, List, [], ◌∷◌, ◌++◌, Option, Some, None, ℤ, pos, negsuc}
use Rattle.behavior.specs.Ending.{Ending, Ended, Divide, Invalid, Breakpoint, PageFault, NoFlag, BadCall, Strayed, if_going}
use Rattle.behavior.specs.Moment.{Moment}
use Rattle.rd_num.specs.Number.{le_bytes, le_number}
use Rattle.x86_core.specs.declared.reg.Reg.{Reg}
use Rattle.x86_core.specs.declared.reg.Reg.TheVariants.{Rax, Rcx, Rdx, Rsp, Rsi, Rdi, R11}
use Rattle.x86_core.specs.declared.flags.Flag.{Flag}
use Rattle.x86_core.specs.declared.flags.Flag.TheVariants.{Zero, One, Unknown}
use Rattle.x86_core.specs.declared.flags.Flags.{Flags}
use Rattle.x86_core.specs.declared.instr.Size.{Size}
use Rattle.x86_core.specs.declared.instr.Cond.{Cond}
use Rattle.x86_core.specs.declared.instr.Instr.{Instr}
use Rattle.x86_core.specs.declared.instr.Instr.TheVariants as form
use Rattle.x86_core.specs.declared.image.Segment.{Segment}
use Rattle.x86_core.specs.declared.effect.Access.{Access}
use Rattle.x86_core.specs.declared.effect.Access.TheVariants.{Nothing, Read, Write}
use Rattle.x86_core.specs.declared.effect.Next.{Next}
use Rattle.x86_core.specs.declared.effect.Next.TheVariants as next
use Rattle.x86_core.specs.declared.effect.Change.{Change}
use Rattle.x86_core.specs.Registers.{word, with_word}
use Rattle.x86_core.specs.Arithmetic.{size_bits, holds, moved}
use Rattle.x86_core.specs.Effect.{effect_of}
use Rattle.x86_core.specs.Memory.{read_at, write_at}

-- how a run stands
pub record State (P : Type 0) : Type 0 where
  pub regs : List ℕ
  pub flags : Flags
  -- where the next instruction stands
  pub place : P
  pub segments : List Segment
  -- the bytes of the input that were not taken yet
  pub left : List ℕ
  pub printed : List ℕ
  pub taken : ℕ
  pub ending : Ending

abbrev pub moment_of : {P : Type 0} → State P → Moment
moment_of s = record { printed = s.printed; taken = s.taken; ending = s.ending }

-- what stands at a place, with every place that a step from there may come to but by a word
pub data Fetched (P : Type 0) : Type 0 where
  -- nothing that can be executed, or an instruction that only stops
  Stops : (ending : Ending) → Fetched P
  -- an instruction of the table that goes on to the next one
  Plain : (instr : Instr) → (after : P) → Fetched P
  Goes : (to : P) → Fetched P
  Tests : (cond : Cond) → (to : P) → (after : P) → Fetched P
  -- a call, with the number that it pushes
  Calls : (to : P) → (back : ℕ) → Fetched P
  -- to the place of the word on the stack, or in r11
  Returns : Fetched P
  Follows : Fetched P
  CallsWord : (back : ℕ) → Fetched P
  -- a system call, with the number that it leaves in rcx
  Systems : (after : P) → (back : ℕ) → Fetched P

-- an instruction, with the place after it, the place that a displacement leads to, and the number of the place after it
abbrev pub sorted : {P : Type 0} → Instr → P → (ℤ → P) → ℕ → Fetched P
sorted (form.Jcc c by) after at back = Tests c (at by) after
sorted (form.Jmp by) after at back = Goes (at by)
sorted (form.Call by) after at back = Calls (at by) back
sorted form.Ret after at back = Returns
sorted form.CallR11 after at back = CallsWord back
sorted form.JmpR11 after at back = Follows
sorted form.Syscall after at back = Systems after back
sorted form.Ud2 after at back = Stops Invalid
sorted form.Int3 after at back = Stops Breakpoint
sorted i after at back = Plain i after

abbrev pub size_bytes : Size → ℕ
size_bytes size = size_bits size / 8

-- after a read: it was refused, or the word goes into a register
abbrev pub after_read : {P : Type 0} → Option (List ℕ) → Change → Reg → P → State P → State P
after_read None c into after s = record s { ending = PageFault }
after_read (Some bytes) c into after s = record s { regs = with_word c.regs into (le_number bytes); flags = c.flags; place = after }

abbrev pub after_write : {P : Type 0} → Option (List Segment) → Change → P → State P → State P
after_write None c after s = record s { ending = PageFault }
after_write (Some segments) c after s = record s { regs = c.regs; flags = c.flags; place = after; segments = segments }

abbrev pub by_access : {P : Type 0} → Access → Change → P → State P → State P
by_access Nothing c after s = record s { regs = c.regs; flags = c.flags; place = after }
by_access (Read at size into) c after s = after_read (read_at s.segments at (size_bytes size)) c into after s
by_access (Write at size n) c after s = after_write (write_at s.segments at (le_bytes (size_bytes size) n)) c after s

-- an instruction that goes on to the next one, unless it has no answer
abbrev pub by_change : {P : Type 0} → Next → Change → P → State P → State P
by_change next.Divide c after s = record s { ending = Divide }
by_change next.NoFlag c after s = record s { ending = NoFlag }
by_change other c after s = by_access c.access c after s

abbrev pub tested : {P : Type 0} → Option Bool → P → P → State P → State P
tested None to after s = record s { ending = NoFlag }
tested (Some true) to after s = record s { place = to }
tested (Some false) to after s = record s { place = after }

-- to the place of a word, or astray
abbrev pub landed : {P : Type 0} → Option P → List ℕ → State P → State P
landed None regs s = record s { ending = Strayed }
landed (Some p) regs s = record s { regs = regs; place = p }

abbrev pub returned : {P : Type 0} → (ℕ → Option P) → Option (List ℕ) → State P → State P
returned land None s = record s { ending = PageFault }
returned land (Some bytes) s = landed (land (le_number bytes)) (with_word s.regs Rsp (moved (word s.regs Rsp) (pos 8))) s

-- the place where a push writes
abbrev pub below : List ℕ → ℕ
below regs = moved (word regs Rsp) (negsuc 7)

abbrev pub called : {P : Type 0} → P → Option (List Segment) → State P → State P
called to None s = record s { ending = PageFault }
called to (Some segments) s = record s { regs = with_word s.regs Rsp (below s.regs); place = to; segments = segments }

-- the push comes first, and then the place of the word
abbrev pub called_word : {P : Type 0} → Option P → Option (List Segment) → State P → State P
called_word to None s = record s { ending = PageFault }
called_word to (Some segments) s = landed to (with_word s.regs Rsp (below s.regs)) (record s { segments = segments })

-- a flag in r11 after a system call; one that isn't known counts 0
abbrev pub flag_number : Flag → ℕ
flag_number One = 1
flag_number Zero = 0
flag_number Unknown = 0

-- the registers after a system call: its answer, the place after it, and the flags
abbrev pub answered : List ℕ → Flags → ℕ → ℕ → List ℕ
answered regs flags answer back =
    with_word (with_word (with_word regs Rax answer) Rcx back) R11
    (514 + flag_number flags.c + 64 * flag_number flags.z + 128 * flag_number flags.s + 2048 * flag_number flags.o)

-- the answer to an address that may not be used: -14
abbrev pub bad_address : ℕ
bad_address = 2 ^ 64 - 14

abbrev pub after_print : {P : Type 0} → Option (List ℕ) → ℕ → P → ℕ → State P → State P
after_print None count after back s = record s { regs = answered s.regs s.flags bad_address back; place = after }
after_print (Some bytes) count after back s = record s { regs = answered s.regs s.flags count back; place = after; printed = s.printed ++ bytes }

-- after the attempt to write a byte of the input, whose bytes these are
abbrev pub after_take : {P : Type 0} → Option (List Segment) → List ℕ → P → ℕ → State P → State P
after_take None bytes after back s = record s { regs = answered s.regs s.flags bad_address back; place = after }
after_take (Some segments) [] after back s = record s { regs = answered s.regs s.flags 0 back; place = after }
after_take (Some segments) (b ∷ bs) after back s = record s { regs = answered s.regs s.flags 1 back; place = after; segments = segments; left = bs; taken = s.taken + 1 }

abbrev pub next_byte : List ℕ → ℕ
next_byte [] = 0
next_byte (b ∷ bs) = b

-- what a system call asks for
pub data Request : Type 0 where
  Exits : Request
  -- to print or to take no byte
  Idles : Request
  Prints : (count : ℕ) → Request
  Takes : Request
  Unknowns : Request

-- rax 60; rax 1 with rdi 1, at most 4,096 bytes at once; rax 0 with rdi 0, one byte at once
unfoldable pub request_of : List ℕ → Request
request_of regs =
    let call = word regs Rax in
    let count = min (word regs Rdx) 4096 in
    if nat_eq call 60 then Exits else
    (if nat_eq call 1 && nat_eq (word regs Rdi) 1 then (if nat_eq count 0 then Idles else Prints count) else
    (if nat_eq call 0 && nat_eq (word regs Rdi) 0 then (if nat_eq count 0 then Idles else Takes) else Unknowns))

-- the place that a byte is taken to may be written: the right is tested whether a byte is left or not
abbrev pub served : {P : Type 0} → Request → P → ℕ → State P → State P
served Exits after back s = record s { ending = Ended (word s.regs Rdi % 256) }
served Idles after back s = record s { regs = answered s.regs s.flags 0 back; place = after }
served (Prints count) after back s = after_print (read_at s.segments (word s.regs Rsi) count) count after back s
served Takes after back s = after_take (write_at s.segments (word s.regs Rsi) (next_byte s.left ∷ [])) s.left after back s
served Unknowns after back s = record s { ending = BadCall }

abbrev pub act : {P : Type 0} → (ℕ → Option P) → Fetched P → State P → State P
act land (Stops e) s = record s { ending = e }
act land (Plain i after) s = let c = effect_of i s.regs s.flags in by_change c.next c after s
act land (Goes to) s = record s { place = to }
act land (Tests c to after) s = tested (holds c s.flags) to after s
act land (Calls to back) s = called to (write_at s.segments (below s.regs) (le_bytes 8 back)) s
act land Returns s = returned land (read_at s.segments (word s.regs Rsp) 8) s
act land Follows s = landed (land (word s.regs R11)) s.regs s
act land (CallsWord back) s = called_word (land (word s.regs R11)) (write_at s.segments (below s.regs) (le_bytes 8 back)) s
act land (Systems after back) s = served (request_of s.regs) after back s

-- what is fetched at the place, and done; a run that has stopped stays as it is
abbrev pub step_of : {P : Type 0} → (List Segment → P → Fetched P) → (ℕ → Option P) → State P → State P
step_of fetch land s = if_going s.ending (act land (fetch s.segments s.place) s) s
