-- What the routines behind a program do on the machine of an object: the start, and those that a program calls by slots.
-- Each has a bound on its steps that can be computed. Arguments come in rdi, rsi and rdx, an answer in rax.
use Rattle.std.specs.Prelude.{◌≡◌, ℕ, ◌+◌, ◌-◌, ◌%◌, ◌^◌, ◌<◌, ◌≤◌, ◌⊎◌, Bool, true, false, List, [], ◌∷◌, ◌++◌, length, replicate, Option, Some, None}
use Rattle.behavior.specs.Ending.{Ended}
use Rattle.behavior.specs.Moment.{Moment}
use Rattle.behavior.specs.Simulation.{Comes}
use Rattle.rd_num.specs.Number.{le_bytes}
use Rattle.x86_core.specs.declared.reg.Reg.{Reg}
use Rattle.x86_core.specs.declared.reg.Reg.TheVariants.{Rax, Rdx, Rbx, Rsp, Rbp, Rsi, Rdi, R12, R13, R14, R15}
use Rattle.x86_core.specs.declared.image.Rights.{Rights}
use Rattle.x86_core.specs.Registers.{word}
use Rattle.x86_core.specs.Memory.{reads, writes, one_covers}
use Rattle.x86_core.specs.Data.{stack_start, stack_end}
use Rattle.x86_core.specs.Step.{State, moment_of}
use Rattle.x86_rows.specs.Addresses.{byte_at, range_at, SameShape}
use Rattle.x86_rows.specs.Saving.{IsStack}
use Rattle.x86_rows.specs.Straight.{Core}
use Rattle.obj_core.specs.declared.object.Object.{Object}
use Rattle.obj_core.specs.declared.object.Place.{Place}
use Rattle.obj_core.specs.SymbolicMachine.{symbolic_land, symbolic_start, symbolic_step}
use Rattle.obj_rows.specs.Standing.{Outside, standing, shown, first_core, first_outside}

-- the most steps of a routine whose steps don't depend on its arguments
abbrev pub few_steps : ℕ
few_steps = 16

-- the most steps of a routine over so many bytes
abbrev pub range_steps : ℕ → ℕ
range_steps n = 64 + n

-- the bytes of the stack that a routine may use below rsp
abbrev pub routine_room : ℕ
routine_room = 1024

-- the registers whose words a call keeps, besides rsp
abbrev pub is_kept : Reg → Bool
is_kept Rbx = true
is_kept Rbp = true
is_kept R12 = true
is_kept R13 = true
is_kept R14 = true
is_kept R15 = true
is_kept r = false

-- the eight bytes at an address are a word by which a run lands at a place
pub record LandsBy (o : Object) (c : Core) (at : ℕ) (back : Place) : Type 0 where
  pub landing : ℕ
  pub small : landing < 2 ^ 64
  pub there : range_at c.segments at 8 ≡ le_bytes 8 landing
  pub lands : symbolic_land o landing ≡ Some back

-- a routine may begin: there is room on the stack, and the word on top of it leads back
pub record IsCalled (o : Object) (c : Core) (back : Place) : Type 0 where
  pub long : length c.regs ≡ 16
  pub stack : IsStack stack_start stack_end c.segments
  pub room : stack_start + routine_room ≤ word c.regs Rsp
  pub top : word c.regs Rsp + 8 ≤ stack_end
  pub lands : LandsBy o c (word c.regs Rsp) back

abbrev pub Answers : Option ℕ → List ℕ → Type 0
Answers (Some n) regs = word regs Rax ≡ n
Answers None regs = Unit {0}

-- a routine comes back: registers are kept, the word is taken off the stack, and of memory only the stack below it has changed
-- and a range, whose bytes are these now
pub record ComesBack (o : Object) (n most : ℕ) (c : Core) (out after : Outside) (back : Place) (answer : Option ℕ) (at : ℕ) (bytes : List ℕ) : Type 0 where
  pub core : Core
  pub comes : Comes (symbolic_step o) 1 most (standing out (Place.Code n 0) c) (standing after back core)
  pub long : length core.regs ≡ 16
  pub kept : (r : Reg) → is_kept r ≡ true → word core.regs r ≡ word c.regs r
  pub top : word core.regs Rsp ≡ word c.regs Rsp + 8
  pub answers : Answers answer core.regs
  pub shape : SameShape c.segments core.segments
  pub range : range_at core.segments at (length bytes) ≡ bytes
  pub others : (q : ℕ) → (q < stack_start) ⊎ (word c.regs Rsp ≤ q) → (q < at) ⊎ (at + length bytes ≤ q) → byte_at core.segments q ≡ byte_at c.segments q

-- a run comes to a state that shows this
pub record ComesToShow (o : Object) (most : ℕ) (from : State Place) (shows : Moment) : Type 0 where
  pub state : State Place
  pub comes : Comes (symbolic_step o) 1 most from state
  pub shown_there : moment_of state ≡ shows

-- putchar prints the low byte of its argument, and gives it
abbrev pub IsPutchar : Object → ℕ → Type 0
IsPutchar o n =
    (c : Core) (out : Outside) (back : Place) → IsCalled o c back →
    let byte = word c.regs Rdi % 256 in
    ComesBack o n few_steps c out (record out { printed = out.printed ++ byte ∷ [] }) back (Some byte) 0 []

-- the first of the bytes that are left is taken; at their end nothing is, and the word is that of -1 in 32 bits
abbrev pub taking : List ℕ → Outside → Outside
taking [] out = out
taking (b ∷ bs) out = record out { left = bs; taken = out.taken + 1 }

abbrev pub taken_word : List ℕ → ℕ
taken_word [] = 2 ^ 32 - 1
taken_word (b ∷ bs) = b

-- getchar takes a byte, and gives it
abbrev pub IsGetchar : Object → ℕ → Type 0
IsGetchar o n =
    (c : Core) (out : Outside) (back : Place) → IsCalled o c back →
    ComesBack o n few_steps c out (taking out.left out) back (Some (taken_word out.left)) 0 []

-- exit ends the run with the low byte of its argument
abbrev pub IsExit : Object → ℕ → Type 0
IsExit o n = (c : Core) (out : Outside) → length c.regs ≡ 16 → ComesToShow o few_steps (standing out (Place.Code n 0) c) (shown out (Ended (word c.regs Rdi % 256)))

-- a range that a routine may use: one segment has it with the right, and it lies outside of the stack below what the caller has
pub record IsLent (right : Rights → Bool) (c : Core) (at n : ℕ) : Type 0 where
  pub below : at + n < 2 ^ 64
  pub allowed : one_covers right c.segments at n ≡ true
  pub apart : (q : ℕ) → at ≤ q → q < at + n → (q < stack_start) ⊎ (word c.regs Rsp + 8 ≤ q)

-- what memcpy asks for, where it copies any bytes: they are bytes, and ranges that overlap begin at one place
pub record MayCopy (c : Core) (to from n : ℕ) : Type 0 where
  pub target : IsLent writes c to n
  pub source : IsLent reads c from n
  pub bytes : (q : ℕ) → from ≤ q → q < from + n → byte_at c.segments q < 256
  pub beside : (to ≡ from) ⊎ ((to + n ≤ from) ⊎ (from + n ≤ to))

-- memcpy: to rdi, from rsi, as many bytes as rdx says
abbrev pub IsMemcpy : Object → ℕ → Type 0
IsMemcpy o n =
    (c : Core) (out : Outside) (back : Place) → IsCalled o c back →
    let to = word c.regs Rdi in
    let from = word c.regs Rsi in
    let count = word c.regs Rdx in
    (1 ≤ count → MayCopy c to from count) →
    ComesBack o n (range_steps count) c out out back None to (range_at c.segments from count)

-- memset: to rdi, the low byte of rsi, as many times as rdx says
abbrev pub IsMemset : Object → ℕ → Type 0
IsMemset o n =
    (c : Core) (out : Outside) (back : Place) → IsCalled o c back →
    let to = word c.regs Rdi in
    let count = word c.regs Rdx in
    (1 ≤ count → IsLent writes c to count) →
    ComesBack o n (range_steps count) c out out back None to (replicate count (word c.regs Rsi % 256))

-- a run begins: it comes to the start of `main` with two arguments of 0, so many calls left in r15, and a word on top of the
-- stack by which it lands where it ends with the low byte of rax; up to there nothing was printed or taken, and memory has
-- changed in the eight bytes of that word alone
pub record IsStart (o : Object) (main calls : ℕ) (input : List ℕ) : Type 0 where
  pub core : Core
  pub back : Place
  pub comes : Comes (symbolic_step o) 1 few_steps (symbolic_start o input) (standing (first_outside input) (Place.Code main 0) core)
  pub long : length core.regs ≡ 16
  pub first_argument : word core.regs Rdi ≡ 0
  pub second_argument : word core.regs Rsi ≡ 0
  pub calls_left : word core.regs R15 ≡ calls
  pub top : word core.regs Rsp + 8 ≡ stack_end
  pub lands : LandsBy o core (word core.regs Rsp) back
  pub shape : SameShape (first_core o).segments core.segments
  pub others : (q : ℕ) → (q + 8 < stack_end) ⊎ (stack_end ≤ q) → byte_at core.segments q ≡ byte_at (first_core o).segments q
  pub ends : (c : Core) (out : Outside) → length c.regs ≡ 16 → ComesToShow o few_steps (standing out back c) (shown out (Ended (word c.regs Rax % 256)))

-- the six of them, the first of which is function `first`
pub record AreRoutines (o : Object) (first main calls : ℕ) : Type 0 where
  pub start : (input : List ℕ) → IsStart o main calls input
  pub putchar : IsPutchar o (first + 1)
  pub getchar : IsGetchar o (first + 2)
  pub exit : IsExit o (first + 3)
  pub memcpy : IsMemcpy o (first + 4)
  pub memset : IsMemset o (first + 5)
