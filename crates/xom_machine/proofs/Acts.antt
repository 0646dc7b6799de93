-- An instruction is carried out by its effect, whichever kind of place it leads to.
use Rattle.std.proofs.Common.{◌≡◌, ℕ, Bool, true, false, List, Option, Some, None, ◌⊎◌, inl, inr, option_map, refl, sym, ap, ◌∙◌}
use Rattle.std.specs.Prelude.{pos}
use Rattle.behavior.specs.Ending.{PageFault}
use Rattle.rd_num.specs.Number.{le_bytes, le_number}
use Rattle.x86_core.specs.declared.instr.Instr.{Instr}
use Rattle.x86_core.specs.declared.instr.Instr.TheVariants.{Mov, MovImm64, MovImm32, Alu, AluImm, Imul, Shift, Div, High, Widen, Load, Store, Lea, Push, Pop, SetCond, Cmov, Jcc, Jmp, Call, Ret, CallR11, JmpR11, Syscall, Ud2, Int3, Nop}
use Rattle.x86_core.specs.declared.instr.Size.{Size}
use Rattle.x86_core.specs.declared.reg.Reg.{Reg}
use Rattle.x86_core.specs.declared.reg.Reg.TheVariants.{Rsp, R11}
use Rattle.x86_core.specs.declared.flags.Flags.{Flags}
use Rattle.x86_core.specs.declared.effect.Access.{Access}
use Rattle.x86_core.specs.declared.effect.Access.TheVariants.{Nothing, Read, Write}
use Rattle.x86_core.specs.declared.effect.Change.{Change}
use Rattle.x86_core.specs.declared.effect.Next.{Next}
use Rattle.x86_core.specs.declared.effect.Next.TheVariants as next
use Rattle.x86_core.specs.declared.divide.Division.{Division}
use Rattle.x86_core.specs.declared.image.Segment.{Segment}
use Rattle.x86_core.specs.Registers.{word, with_word}
use Rattle.x86_core.specs.Arithmetic.{moved, holds, division, size_bits, low}
use Rattle.x86_core.specs.Effect.{effect_of, dividend, divided, set_effect, cmov_effect, jcc_effect}
use Rattle.x86_core.specs.Applying.{where_it_falls}
use Rattle.x86_core.specs.Memory.{read_at, write_at}
use Rattle.x86_core.specs.Step.{State, size_bytes, sorted, act, by_change, by_access, after_read, after_write, tested, returned, called, called_word, below, request_of, served}
use Rattle.xom_machine.specs.declared.machine.Machine.{Machine}
use Rattle.xom_machine.specs.Standing.{state_of}
use Rattle.xom_machine.specs.Changes.{led, carried_out}

pub acts : (i : Instr) (after : ℕ) (s : State ℕ) → act Some (sorted i after (moved after) after) s ≡ carried_out (effect_of i s.regs s.flags).next (effect_of i s.regs s.flags) after s
unfolding effect_of
acts (Mov w d r) after s = refl
acts (MovImm64 d n) after s = refl
acts (MovImm32 d n) after s = refl
acts (Alu op w d r) after s = refl
acts (AluImm op w d n) after s = refl
acts (Imul w d r) after s = refl
acts (Shift op w d) after s = refl
acts (Div signed size r) after s = by (division signed (size_bits size) (dividend size s.regs) (low (size_bits size) (word s.regs r)))
  where
    by : (o : Option Division) → let c = divided size s.regs s.flags o in by_change c.next c after s ≡ carried_out c.next c after s
    by (Some d) = refl
    by None = refl
acts (High size) after s = refl
acts (Widen kind d r) after s = refl
acts (Load size d m) after s = refl
acts (Store size m r) after s = refl
acts (Lea d m) after s = refl
acts (Push r) after s = refl
acts (Pop r) after s = refl
acts (SetCond c d) after s = by (holds c s.flags)
  where
    by : (o : Option Bool) → let c = set_effect o d s.regs s.flags in by_change c.next c after s ≡ carried_out c.next c after s
    by (Some t) = refl
    by None = refl
acts (Cmov c d r) after s = by (holds c s.flags)
  where
    by : (o : Option Bool) → let c = cmov_effect o d r s.regs s.flags in by_change c.next c after s ≡ carried_out c.next c after s
    by (Some t) = refl
    by None = refl
acts (Jcc c by_disp) after s = by (holds c s.flags)
  where
    by : (o : Option Bool) → let c = jcc_effect o by_disp s.regs s.flags in tested o (moved after by_disp) after s ≡ carried_out c.next c after s
    by (Some true) = refl
    by (Some false) = refl
    by None = refl
acts (Jmp to) after s = refl
acts (Call to) after s = refl
acts Ret after s = refl
acts CallR11 after s = by (write_at s.segments (below s.regs) (le_bytes 8 after))
  where
    by : (o : Option (List Segment)) → called_word (Some (word s.regs R11)) o s ≡ called (word s.regs R11) o s
    by None = refl
    by (Some segments) = refl
acts JmpR11 after s = refl
acts Syscall after s = refl
acts Ud2 after s = refl
acts Int3 after s = refl
acts Nop after s = refl

-- an instruction that makes an access goes on to the next one
pub falls : (i : Instr) (regs : List ℕ) (flags : Flags) → ((effect_of i regs flags).access ≡ Nothing) ⊎ ((effect_of i regs flags).next ≡ next.Fall)
unfolding effect_of
falls (Mov w d r) regs flags = inl refl
falls (MovImm64 d n) regs flags = inl refl
falls (MovImm32 d n) regs flags = inl refl
falls (Alu op w d r) regs flags = inl refl
falls (AluImm op w d n) regs flags = inl refl
falls (Imul w d r) regs flags = inl refl
falls (Shift op w d) regs flags = inl refl
falls (Div signed size r) regs flags = inl (by (division signed (size_bits size) (dividend size regs) (low (size_bits size) (word regs r))))
  where
    by : (o : Option Division) → (divided size regs flags o).access ≡ Nothing
    by (Some d) = refl
    by None = refl
falls (High size) regs flags = inl refl
falls (Widen kind d r) regs flags = inl refl
falls (Load size d m) regs flags = inr refl
falls (Store size m r) regs flags = inr refl
falls (Lea d m) regs flags = inl refl
falls (Push r) regs flags = inr refl
falls (Pop r) regs flags = inr refl
falls (SetCond c d) regs flags = inl (by (holds c flags))
  where
    by : (o : Option Bool) → (set_effect o d regs flags).access ≡ Nothing
    by (Some t) = refl
    by None = refl
falls (Cmov c d r) regs flags = inl (by (holds c flags))
  where
    by : (o : Option Bool) → (cmov_effect o d r regs flags).access ≡ Nothing
    by (Some t) = refl
    by None = refl
falls (Jcc c by_disp) regs flags = inl (by (holds c flags))
  where
    by : (o : Option Bool) → (jcc_effect o by_disp regs flags).access ≡ Nothing
    by (Some t) = refl
    by None = refl
falls (Jmp to) regs flags = inl refl
falls (Call to) regs flags = inl refl
falls Ret regs flags = inl refl
falls CallR11 regs flags = inl refl
falls JmpR11 regs flags = inl refl
falls Syscall regs flags = inl refl
falls Ud2 regs flags = inl refl
falls Int3 regs flags = inl refl
falls Nop regs flags = inl refl

module _ (i : Instr) (regs : List ℕ) (flags : Flags) where
  pub read_falls : (at : ℕ) (size : Size) (into : Reg) → Read at size into ≡ (effect_of i regs flags).access → (effect_of i regs flags).next ≡ next.Fall
  read_falls at size into e = by (falls i regs flags)
    where
      by : ((effect_of i regs flags).access ≡ Nothing) ⊎ ((effect_of i regs flags).next ≡ next.Fall) → (effect_of i regs flags).next ≡ next.Fall
      by (inl n) = absurd (cc)
      by (inr f) = f

  pub write_falls : (at : ℕ) (size : Size) (n : ℕ) → Write at size n ≡ (effect_of i regs flags).access → (effect_of i regs flags).next ≡ next.Fall
  write_falls at size n e = by (falls i regs flags)
    where
      by : ((effect_of i regs flags).access ≡ Nothing) ⊎ ((effect_of i regs flags).next ≡ next.Fall) → (effect_of i regs flags).next ≡ next.Fall
      by (inl n) = absurd (cc)
      by (inr f) = f

-- a word that is read goes into its register
pub word_read : (w : ℕ) (o : Option (List ℕ)) (c : Change) (into : Reg) (after : ℕ) (s : State ℕ) → Some w ≡ option_map le_number o →
    after_read o c into after s ≡ record s { regs = with_word c.regs into w; flags = c.flags; place = after }
word_read w None c into after s e = absurd (cc)
word_read w (Some bytes) c into after s e =
    let same : le_number bytes ≡ w = cc in
    ap (λ (n : ℕ). record s { regs = with_word c.regs into n; flags = c.flags; place = after }) same

pub no_word_read : (o : Option (List ℕ)) (c : Change) (into : Reg) (after : ℕ) (s : State ℕ) → None ≡ option_map le_number o → after_read o c into after s ≡ record s { ending = PageFault }
no_word_read None c into after s e = refl
no_word_read (Some bytes) c into after s e = absurd (cc)

pub word_back : (w : ℕ) (o : Option (List ℕ)) (s : State ℕ) → Some w ≡ option_map le_number o →
    returned Some o s ≡ record s { regs = with_word s.regs Rsp (moved (word s.regs Rsp) (pos 8)); place = w }
word_back w None s e = absurd (cc)
word_back w (Some bytes) s e =
    let same : le_number bytes ≡ w = cc in
    ap (λ (n : ℕ). record s { regs = with_word s.regs Rsp (moved (word s.regs Rsp) (pos 8)); place = n }) same

pub no_word_back : (o : Option (List ℕ)) (s : State ℕ) → None ≡ option_map le_number o → returned Some o s ≡ record s { ending = PageFault }
no_word_back None s e = refl
no_word_back (Some bytes) s e = absurd (cc)

-- an instruction with an access, by the access
module _ (i : Instr) (after : ℕ) (m : Machine) where
  abbrev change : Change
  change = effect_of i m.regs m.flags

  acts_by : (n : Next) (a : Access) → change.next ≡ n → change.access ≡ a → n ≡ next.Fall → (left printed : List ℕ) (taken : ℕ) →
      by_access a change after (state_of m left printed taken) ≡ act Some (sorted i after (moved after) after) (state_of m left printed taken)
  acts_by n a e f h left printed taken =
      ap (λ (x : Access). by_access x change after (state_of m left printed taken)) (sym f)
      ∙ ap (λ (n : Next). carried_out n change after (state_of m left printed taken)) (sym (e ∙ h))
      ∙ sym (acts i after (state_of m left printed taken))

  pub read_acts : (at : ℕ) (size : Size) (into : Reg) → Read at size into ≡ change.access → (left printed : List ℕ) (taken : ℕ) →
      after_read (read_at m.memory at (size_bytes size)) change into after (state_of m left printed taken) ≡ act Some (sorted i after (moved after) after) (state_of m left printed taken)
  read_acts at size into e = acts_by change.next (Read at size into) refl (sym e) (read_falls i m.regs m.flags at size into e)

  pub write_acts : (at : ℕ) (size : Size) (n : ℕ) → Write at size n ≡ change.access → (left printed : List ℕ) (taken : ℕ) →
      after_write (write_at m.memory at (le_bytes (size_bytes size) n)) change after (state_of m left printed taken) ≡ act Some (sorted i after (moved after) after) (state_of m left printed taken)
  write_acts at size n e = acts_by change.next (Write at size n) refl (sym e) (write_falls i m.regs m.flags at size n e)

-- registers and flags that are the same
pub same_change : (m : Machine) (r r2 : List ℕ) (f f2 : Flags) → r ≡ r2 → f ≡ f2 → record m { regs = r; flags = f } ≡ record m { regs = r2; flags = f2 }
same_change m r r2 f f2 e g = ap (λ (x : List ℕ). record m { regs = x; flags = f }) e ∙ ap (λ (x : Flags). record m { regs = r2; flags = x }) g

-- an instruction without an access, whose change is done
module _ (i : Instr) (after : ℕ) (m m1 : Machine) (alone : (effect_of i m.regs m.flags).access ≡ Nothing)
    (is : m1 ≡ record m { regs = where_it_falls (effect_of i m.regs m.flags).next (effect_of i m.regs m.flags).regs m.regs; flags = where_it_falls (effect_of i m.regs m.flags).next (effect_of i m.regs m.flags).flags m.flags }) where
  -- it is as before unless it goes on to the next one
  pub same_before : ((effect_of i m.regs m.flags).next ≡ next.Fall → ⊥) → m1 ≡ m
  same_before h = is ∙ by (effect_of i m.regs m.flags).next h
    where
      by : (n : Next) → (n ≡ next.Fall → ⊥) → record m { regs = where_it_falls n (effect_of i m.regs m.flags).regs m.regs; flags = where_it_falls n (effect_of i m.regs m.flags).flags m.flags } ≡ m
      by next.Fall h = absurd (h refl)
      by (next.Branch d) h = refl
      by (next.Call d) h = refl
      by next.Return h = refl
      by next.ToR11 h = refl
      by next.CallR11 h = refl
      by next.Kernel h = refl
      by next.Divide h = refl
      by next.Invalid h = refl
      by next.Breakpoint h = refl
      by next.NoFlag h = refl

  pub kernel_acts : (effect_of i m.regs m.flags).next ≡ next.Kernel → (left printed : List ℕ) (taken : ℕ) →
      served (request_of m.regs) after after (state_of m left printed taken) ≡ act Some (sorted i after (moved after) after) (state_of m left printed taken)
  kernel_acts k left printed taken =
      ap (λ (n : Next). carried_out n (effect_of i m.regs m.flags) after (state_of m left printed taken)) (sym k) ∙ sym (acts i after (state_of m left printed taken))

  -- where it leads from there is what it does from before
  pub led_acts : ((effect_of i m.regs m.flags).next ≡ next.Kernel → ⊥) → (left printed : List ℕ) (taken : ℕ) →
      led (effect_of i m.regs m.flags).next after (state_of m1 left printed taken) ≡ act Some (sorted i after (moved after) after) (state_of m left printed taken)
  led_acts k left printed taken =
      ap (λ (x : Machine). led (effect_of i m.regs m.flags).next after (state_of x left printed taken)) is
      ∙ by (effect_of i m.regs m.flags).next k
      ∙ sym (acts i after (state_of m left printed taken))
    where
      by : (n : Next) → (n ≡ next.Kernel → ⊥) →
          led n after (state_of (record m { regs = where_it_falls n (effect_of i m.regs m.flags).regs m.regs; flags = where_it_falls n (effect_of i m.regs m.flags).flags m.flags }) left printed taken)
          ≡ carried_out n (effect_of i m.regs m.flags) after (state_of m left printed taken)
      by next.Fall h = ap (λ (x : Access). by_access x (effect_of i m.regs m.flags) after (state_of m left printed taken)) (sym alone)
      by (next.Branch d) h = refl
      by (next.Call d) h = refl
      by next.Return h = refl
      by next.ToR11 h = refl
      by next.CallR11 h = refl
      by next.Kernel h = absurd (h refl)
      by next.Divide h = refl
      by next.Invalid h = refl
      by next.Breakpoint h = refl
      by next.NoFlag h = refl
