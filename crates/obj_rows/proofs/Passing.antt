-- What one instruction does to a machine with places is what it does to registers, flags and segments alone.
use Rattle.std.proofs.Common.{◌≡◌, ℕ, Bool, true, false, List, Option, Some, None, refl}
use Rattle.std.specs.Prelude.{ℤ}
use Rattle.behavior.specs.Ending.{is_going}
use Rattle.rd_num.specs.Number.{le_bytes}
use Rattle.x86_core.specs.declared.reg.Reg.{Reg}
use Rattle.x86_core.specs.declared.instr.Size.{Size}
use Rattle.x86_core.specs.declared.instr.Instr.{Instr}
use Rattle.x86_core.specs.declared.instr.Instr.TheVariants.{Div, SetCond, Cmov, Jcc, Jmp, Call, Ret, CallR11, JmpR11, Syscall, Ud2, Int3}
use Rattle.x86_core.specs.declared.divide.Division.{Division}
use Rattle.x86_core.specs.declared.image.Segment.{Segment}
use Rattle.x86_core.specs.declared.effect.Access.{Access}
use Rattle.x86_core.specs.declared.effect.Access.TheVariants.{Nothing, Read, Write}
use Rattle.x86_core.specs.declared.effect.Next.{Next}
use Rattle.x86_core.specs.declared.effect.Next.TheVariants as next
use Rattle.x86_core.specs.declared.effect.Change.{Change}
use Rattle.x86_core.specs.Registers.{word}
use Rattle.x86_core.specs.Arithmetic.{size_bits, low, division, holds}
use Rattle.x86_core.specs.Effect.{effect_of, divided, dividend, set_effect, cmov_effect, jcc_effect}
use Rattle.x86_core.specs.Memory.{read_at, write_at}
use Rattle.x86_core.specs.Step.{State, sorted, act, size_bytes, after_read, after_write, by_access, by_change as machine_change, tested}
use Rattle.x86_rows.specs.Straight.{Core, Passage, Through, Stopped, Away, loaded, stored, accessed, passed, by_change, ran}

-- a passage stops only with an ending that stops
abbrev pub Stops : Passage → Type 0
Stops (Through c) = Unit {0}
Stops (Stopped e) = is_going e ≡ false
Stops Away = Unit {0}

loaded_stops : (o : Option (List ℕ)) (c : Change) (into : Reg) (ss : List Segment) → Stops (loaded o c into ss)
loaded_stops None c into ss = refl
loaded_stops (Some bytes) c into ss = tt

stored_stops : (o : Option (List Segment)) (c : Change) → Stops (stored o c)
stored_stops None c = refl
stored_stops (Some segments) c = tt

accessed_stops : (a : Access) (c : Change) (ss : List Segment) → Stops (accessed a c ss)
accessed_stops Nothing c ss = tt
accessed_stops (Read at size into) c ss = loaded_stops (read_at ss at (size_bytes size)) c into ss
accessed_stops (Write at size n) c ss = stored_stops (write_at ss at (le_bytes (size_bytes size) n)) c

passed_stops : (m : Next) (c : Change) (ss : List Segment) → Stops (passed m c ss)
passed_stops next.Fall c ss = accessed_stops c.access c ss
passed_stops next.Divide c ss = refl
passed_stops next.Invalid c ss = refl
passed_stops next.Breakpoint c ss = refl
passed_stops next.NoFlag c ss = refl
passed_stops other c ss = tt

pub ran_stops : (i : Instr) (c : Core) → Stops (ran i c)
ran_stops i c = let change = effect_of i c.regs c.flags in passed_stops change.next change c.segments

module _ {P : Type 0} (land : ℕ → Option P) (after : P) (at : ℤ → P) (back : ℕ) (s : State P) where
  -- a state that comes of a passage: behind the instruction, or stopped
  abbrev pub Fits : Passage → State P → Type 0
  Fits (Through c) t = t ≡ record s { regs = c.regs; flags = c.flags; place = after; segments = c.segments }
  Fits (Stopped e) t = t ≡ record s { ending = e }
  Fits Away t = Unit {0}

  read_fits : (o : Option (List ℕ)) (c : Change) (into : Reg) → Fits (loaded o c into s.segments) (after_read o c into after s)
  read_fits None c into = refl
  read_fits (Some bytes) c into = refl

  write_fits : (o : Option (List Segment)) (c : Change) → Fits (stored o c) (after_write o c after s)
  write_fits None c = refl
  write_fits (Some segments) c = refl

  access_fits : (a : Access) (c : Change) → Fits (accessed a c s.segments) (by_access a c after s)
  access_fits Nothing c = refl
  access_fits (Read from size into) c = read_fits (read_at s.segments from (size_bytes size)) c into
  access_fits (Write to size n) c = write_fits (write_at s.segments to (le_bytes (size_bytes size) n)) c

  -- a change that may have no answer
  abbrev Agree : Change → Type 0
  Agree c = Fits (by_change c s.segments) (machine_change c.next c after s)

  divided_fits : (size : Size) (o : Option Division) → Agree (divided size s.regs s.flags o)
  divided_fits size None = refl
  divided_fits size (Some d) = refl

  set_fits : (o : Option Bool) (d : Reg) → Agree (set_effect o d s.regs s.flags)
  set_fits None d = refl
  set_fits (Some t) d = refl

  cmov_fits : (o : Option Bool) (d r : Reg) → Agree (cmov_effect o d r s.regs s.flags)
  cmov_fits None d r = refl
  cmov_fits (Some t) d r = refl

  -- a branch that isn't taken is passed
  jcc_fits : (o : Option Bool) (by : ℤ) → Fits (by_change (jcc_effect o by s.regs s.flags) s.segments) (tested o (at by) after s)
  jcc_fits None by = refl
  jcc_fits (Some true) by = tt
  jcc_fits (Some false) by = refl

  pub ran_fits : (i : Instr) → Fits (ran i (record { regs = s.regs; flags = s.flags; segments = s.segments })) (act land (sorted i after at back) s)
  unfolding effect_of
  ran_fits (Jcc c by) = jcc_fits (holds c s.flags) by
  ran_fits (Jmp by) = tt
  ran_fits (Call by) = tt
  ran_fits Ret = tt
  ran_fits CallR11 = tt
  ran_fits JmpR11 = tt
  ran_fits Syscall = tt
  ran_fits Ud2 = refl
  ran_fits Int3 = refl
  ran_fits (Div signed size r) = divided_fits size (division signed (size_bits size) (dividend size s.regs) (low (size_bits size) (word s.regs r)))
  ran_fits (SetCond c d) = set_fits (holds c s.flags) d
  ran_fits (Cmov c d r) = cmov_fits (holds c s.flags) d r
  ran_fits i = let change = effect_of i s.regs s.flags in access_fits change.access change
