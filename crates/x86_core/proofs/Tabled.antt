-- Every instruction takes its registers, its flags and its next place from the instruction table.
use Rattle.std.proofs.Common.{◌≡◌, ℕ, Bool, true, false, List, Option, Some, None, length, refl, sym, subst, arith}
use Rattle.std.specs.Prelude.{ℤ, pos, negsuc}
use Rattle.std.proofs.lemmas.List.{get_or-set_same}
use Rattle.rd_num.specs.Number.{le_bytes, le_number}
use Rattle.x86_core.specs.declared.divide.Division.{Division}
use Rattle.x86_core.specs.declared.image.Segment.{Segment}
use Rattle.x86_core.specs.declared.effect.Change.{Change}
use Rattle.x86_core.specs.declared.effect.Next.{Next}
use Rattle.x86_core.specs.declared.effect.Access.TheVariants.{Nothing}
use Rattle.x86_core.specs.declared.instr.Size.{Size}
use Rattle.x86_core.specs.declared.instr.Instr.{Instr}
use Rattle.x86_core.specs.declared.instr.Instr.TheVariants.{Mov, MovImm64, MovImm32, Alu, AluImm, Imul, Shift, Div, High, Widen, Load, Store, Lea, Push, Pop, SetCond, Cmov, Jcc, Jmp, Call, Ret, CallR11, JmpR11, Syscall, Ud2, Int3, Nop}
use Rattle.x86_core.specs.declared.reg.Reg.{Reg}
use Rattle.x86_core.specs.declared.reg.Reg.TheVariants.{Rsp, R11}
use Rattle.x86_core.specs.Registers.{word}
use Rattle.x86_core.specs.Arithmetic.{holds, division, size_bits, low}
use Rattle.x86_core.specs.Effect.{effect_of, divided, dividend, set_effect, cmov_effect, jcc_effect, with_stack}
use Rattle.x86_core.specs.Memory.{read_at, write_at}
use Rattle.x86_core.specs.Step.{State, by_change, act, sorted, below, called, called_word, landed, returned, tested}
use Rattle.x86_core.specs.Table.{by_table, led, call_by, call_word_by, back_by}

module _ (land : ℕ → Option ℕ) (after : ℕ) (at : ℤ → ℕ) (back : ℕ) (s : State ℕ) where
  -- a change that goes on or has no answer, as the table has it
  abbrev Tabled : Change → Type 0
  Tabled c = by_change c.next c after s ≡ led land c.next c after at back s

  divided_tabled : (size : Size) (o : Option Division) → Tabled (divided size s.regs s.flags o)
  divided_tabled size (Some d) = refl
  divided_tabled size None = refl

  set_tabled : (o : Option Bool) (d : Reg) → Tabled (set_effect o d s.regs s.flags)
  set_tabled (Some true) d = refl
  set_tabled (Some false) d = refl
  set_tabled None d = refl

  cmov_tabled : (o : Option Bool) (d r : Reg) → Tabled (cmov_effect o d r s.regs s.flags)
  cmov_tabled (Some true) d r = refl
  cmov_tabled (Some false) d r = refl
  cmov_tabled None d r = refl

  -- a branch under a condition
  jcc_tabled : (o : Option Bool) (by : ℤ) → tested o (at by) after s ≡ by_table land (jcc_effect o by s.regs s.flags) after at back s
  jcc_tabled (Some true) by = refl
  jcc_tabled (Some false) by = refl
  jcc_tabled None by = refl

  -- the pushed word stands at the row's rsp
  pushed_tabled : length s.regs ≡ 16 → word (with_stack s.regs (negsuc 7)) Rsp ≡ below s.regs
  pushed_tabled long = get_or-set_same s.regs 4 (below s.regs) 0 (let e = long in omega arith)

  -- after the push of a call, and of a call of a word
  call_tabled : (n : Next) (to : ℕ) (o : Option (List Segment)) → called to o s ≡ call_by o (record { regs = with_stack s.regs (negsuc 7); flags = s.flags; access = Nothing; next = n }) to s
  call_tabled n to None = refl
  call_tabled n to (Some segments) = refl

  word_tabled : (n : Next) (to : Option ℕ) (o : Option (List Segment)) → called_word to o s ≡ call_word_by o (record { regs = with_stack s.regs (negsuc 7); flags = s.flags; access = Nothing; next = n }) to s
  word_tabled n to None = refl
  word_tabled n None (Some segments) = refl
  word_tabled n (Some p) (Some segments) = refl

  return_landed : (p : Option ℕ) → landed p (with_stack s.regs (pos 8)) s ≡ landed p (with_stack s.regs (pos 8)) (record s { flags = s.flags })
  return_landed None = refl
  return_landed (Some p) = refl

  return_tabled : (o : Option (List ℕ)) → returned land o s ≡ back_by land o (record { regs = with_stack s.regs (pos 8); flags = s.flags; access = Nothing; next = Next.Return }) s
  return_tabled None = refl
  return_tabled (Some bytes) = return_landed (land (le_number bytes))

  follow_tabled : (p : Option ℕ) → landed p s.regs s ≡ landed p s.regs (record s { flags = s.flags })
  follow_tabled None = refl
  follow_tabled (Some p) = refl

  -- each row
  pub acts_by_table : (i : Instr) → length s.regs ≡ 16 → act land (sorted i after at back) s ≡ by_table land (effect_of i s.regs s.flags) after at back s
  unfolding effect_of
  acts_by_table (Mov w d r) long = refl
  acts_by_table (MovImm64 d n) long = refl
  acts_by_table (MovImm32 d n) long = refl
  acts_by_table (Alu op w d r) long = refl
  acts_by_table (AluImm op w d n) long = refl
  acts_by_table (Imul w d r) long = refl
  acts_by_table (Shift op w d) long = refl
  acts_by_table (Div signed size r) long = divided_tabled size (division signed (size_bits size) (dividend size s.regs) (low (size_bits size) (word s.regs r)))
  acts_by_table (High size) long = refl
  acts_by_table (Widen kind d r) long = refl
  acts_by_table (Load size d m) long = refl
  acts_by_table (Store size m r) long = refl
  acts_by_table (Lea d m) long = refl
  acts_by_table (Push r) long = refl
  acts_by_table (Pop r) long = refl
  acts_by_table (SetCond c d) long = set_tabled (holds c s.flags) d
  acts_by_table (Cmov c d r) long = cmov_tabled (holds c s.flags) d r
  acts_by_table (Jcc c by) long = jcc_tabled (holds c s.flags) by
  acts_by_table (Jmp by) long = refl
  acts_by_table (Call by) long = subst (λ n. called (at by) (write_at s.segments (below s.regs) (le_bytes 8 back)) s ≡ call_by (write_at s.segments n (le_bytes 8 back)) (effect_of (Call by) s.regs s.flags) (at by) s) (sym (pushed_tabled long)) (call_tabled (Next.Call by) (at by) (write_at s.segments (below s.regs) (le_bytes 8 back)))
  acts_by_table Ret long = return_tabled (read_at s.segments (word s.regs Rsp) 8)
  acts_by_table CallR11 long = subst (λ n. called_word (land (word s.regs R11)) (write_at s.segments (below s.regs) (le_bytes 8 back)) s ≡ call_word_by (write_at s.segments n (le_bytes 8 back)) (effect_of CallR11 s.regs s.flags) (land (word s.regs R11)) s) (sym (pushed_tabled long)) (word_tabled Next.CallR11 (land (word s.regs R11)) (write_at s.segments (below s.regs) (le_bytes 8 back)))
  acts_by_table JmpR11 long = follow_tabled (land (word s.regs R11))
  acts_by_table Syscall long = refl
  acts_by_table Ud2 long = refl
  acts_by_table Int3 long = refl
  acts_by_table Nop long = refl
