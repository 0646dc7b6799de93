-- What each kind of instruction does: the one place where the table of effects is opened.
use Rattle.std.proofs.Common.{◌≡◌, ℕ, ◌≤◌, Bool, true, false, List, Option, Some, None, if◌then◌else◌, refl, ◌∙◌, ap, lit≤}
use Rattle.std.specs.Prelude.{ℤ, pos}
use Rattle.behavior.specs.Ending.{Divide, Invalid, Breakpoint}
use Rattle.rd_num.specs.Number.{le_bytes, le_number}
use Rattle.x86_core.specs.declared.reg.Reg.{Reg}
use Rattle.x86_core.specs.declared.reg.Reg.TheVariants.{Rsp}
use Rattle.x86_core.specs.declared.instr.Wide.{Wide}
use Rattle.x86_core.specs.declared.instr.Size.{Size}
use Rattle.x86_core.specs.declared.instr.HighSize.{HighSize}
use Rattle.x86_core.specs.declared.instr.Mem.{Mem}
use Rattle.x86_core.specs.declared.instr.AluOp.{AluOp}
use Rattle.x86_core.specs.declared.instr.ImmOp.{ImmOp}
use Rattle.x86_core.specs.declared.instr.ShiftOp.{ShiftOp}
use Rattle.x86_core.specs.declared.instr.WidenKind.{WidenKind}
use Rattle.x86_core.specs.declared.instr.Cond.{Cond}
use Rattle.x86_core.specs.declared.instr.Instr.TheVariants.{Mov, MovImm64, MovImm32, Alu, AluImm, Imul, Shift, Div, High, Widen, Load, Store, Lea, Push, Pop, SetCond, Cmov, Jcc, Ud2, Int3, Nop}
use Rattle.x86_core.specs.declared.divide.Division.{Division}
use Rattle.x86_core.specs.declared.image.Segment.{Segment}
use Rattle.x86_core.specs.Registers.{word, with_word}
use Rattle.x86_core.specs.Arithmetic.{wide_bits, size_bits, low, kept, constant, same_op, unknown_flags, division, widened, holds}
use Rattle.x86_core.specs.Effect.{effect_of, alu_effect, imul_effect, shift_effect, dividend, with_division, divided, high_effect, address_of, with_stack, set_effect, cmov_effect, jcc_effect}
use Rattle.x86_core.specs.Memory.{reads, one_covers, read_at, write_at}
use Rattle.x86_core.specs.Step.{size_bytes, below}
use Rattle.x86_rows.specs.Addresses.{range_at, AreDisjoint, Written}
use Rattle.x86_rows.specs.Straight.{Core, Through, Stopped, loaded, stored, by_change, ran}
use Rattle.x86_rows.specs.Leaves.{with_reg, with_regs, with_segments, by_effect}
use Rattle.x86_rows.proofs.Reading.{read_range}

module _ (c : Core) where
  -- moves between registers, and constants
  pub mov : (w : Wide) (d s : Reg) → ran (Mov w d s) c ≡ Through (with_reg c d (low (wide_bits w) (word c.regs s)))
  unfolding effect_of
  mov w d s = refl

  pub mov_imm64 : (d : Reg) (n : ℕ) → ran (MovImm64 d n) c ≡ Through (with_reg c d n)
  unfolding effect_of
  mov_imm64 d n = refl

  pub mov_imm32 : (d : Reg) (n : ℕ) → ran (MovImm32 d n) c ≡ Through (with_reg c d n)
  unfolding effect_of
  mov_imm32 d n = refl

  -- numbers
  pub alu : (op : AluOp) (w : Wide) (d s : Reg) → ran (Alu op w d s) c ≡ Through (by_effect (alu_effect op w d (word c.regs s) c.regs) c)
  unfolding effect_of
  alu op w d s = refl

  pub alu_imm : (op : ImmOp) (w : Wide) (d : Reg) (n : ℤ) → ran (AluImm op w d n) c ≡ Through (by_effect (alu_effect (same_op op) w d (constant n) c.regs) c)
  unfolding effect_of
  alu_imm op w d n = refl

  pub imul : (w : Wide) (d s : Reg) → ran (Imul w d s) c ≡ Through (by_effect (imul_effect w d s c.regs) c)
  unfolding effect_of
  imul w d s = refl

  pub shift : (op : ShiftOp) (w : Wide) (d : Reg) → ran (Shift op w d) c ≡ Through (by_effect (shift_effect op w d c.regs c.flags) c)
  unfolding effect_of
  shift op w d = refl

  pub high : (size : HighSize) → ran (High size) c ≡ Through (with_regs c (high_effect size c.regs))
  unfolding effect_of
  high size = refl

  pub widen : (kind : WidenKind) (d s : Reg) → ran (Widen kind d s) c ≡ Through (with_reg c d (widened kind (word c.regs s)))
  unfolding effect_of
  widen kind d s = refl

  pub lea : (d : Reg) (m : Mem) → ran (Lea d m) c ≡ Through (with_reg c d (address_of c.regs m))
  unfolding effect_of
  lea d m = refl

  -- a division that has an answer, and one that has none
  div_by : (signed : Bool) (size : Size) (s : Reg) (o : Option Division) → division signed (size_bits size) (dividend size c.regs) (low (size_bits size) (word c.regs s)) ≡ o → ran (Div signed size s) c ≡ by_change (divided size c.regs c.flags o) c.segments
  unfolding effect_of
  div_by signed size s o e = ap (λ x. by_change (divided size c.regs c.flags x) c.segments) e

  pub div : (signed : Bool) (size : Size) (s : Reg) (d : Division) → division signed (size_bits size) (dividend size c.regs) (low (size_bits size) (word c.regs s)) ≡ Some d →
      ran (Div signed size s) c ≡ Through (record c { regs = with_division size c.regs d; flags = unknown_flags })
  div signed size s d e = div_by signed size s (Some d) e

  pub div_stops : (signed : Bool) (size : Size) (s : Reg) → division signed (size_bits size) (dividend size c.regs) (low (size_bits size) (word c.regs s)) ≡ None → ran (Div signed size s) c ≡ Stopped Divide
  div_stops signed size s e = div_by signed size s None e

  -- memory, by an access that is known
  pub load_by : (size : Size) (d : Reg) (m : Mem) (at : ℕ) (bytes : List ℕ) → address_of c.regs m ≡ at → read_at c.segments at (size_bytes size) ≡ Some bytes → ran (Load size d m) c ≡ Through (with_reg c d (le_number bytes))
  unfolding effect_of
  load_by size d m at bytes there e =
      let change = effect_of (Load size d m) c.regs c.flags in
      ap (λ p. loaded (read_at c.segments p (size_bytes size)) change d c.segments) there ∙ ap (λ r. loaded r change d c.segments) e

  pub store_by : (size : Size) (m : Mem) (s : Reg) (at n : ℕ) (ts : List Segment) → address_of c.regs m ≡ at → low (size_bits size) (word c.regs s) ≡ n → write_at c.segments at (le_bytes (size_bytes size) n) ≡ Some ts → ran (Store size m s) c ≡ Through (with_segments c ts)
  unfolding effect_of
  store_by size m s at n ts there same e =
      let change = effect_of (Store size m s) c.regs c.flags in
      ap (λ k. stored (write_at c.segments (address_of c.regs m) (le_bytes (size_bytes size) k)) change) same ∙
      ap (λ p. stored (write_at c.segments p (le_bytes (size_bytes size) n)) change) there ∙
      ap (λ r. stored r change) e

  pub push_by : (r : Reg) (ts : List Segment) → write_at c.segments (below c.regs) (le_bytes 8 (word c.regs r)) ≡ Some ts → ran (Push r) c ≡ Through (record c { regs = with_word c.regs Rsp (below c.regs); segments = ts })
  unfolding effect_of
  push_by r ts e = ap (λ x. stored x (effect_of (Push r) c.regs c.flags)) e

  pub pop_by : (r : Reg) (bytes : List ℕ) → read_at c.segments (word c.regs Rsp) 8 ≡ Some bytes → ran (Pop r) c ≡ Through (with_regs c (with_word (with_stack c.regs (pos 8)) r (le_number bytes)))
  unfolding effect_of
  pop_by r bytes e = ap (λ x. loaded x (effect_of (Pop r) c.regs c.flags) r c.segments) e

  -- conditions that are known, and one that isn't
  pub set_cond : (cond : Cond) (d : Reg) (t : Bool) → holds cond c.flags ≡ Some t → ran (SetCond cond d) c ≡ Through (with_reg c d (kept Size.W8 (word c.regs d) (if t then 1 else 0)))
  unfolding effect_of
  set_cond cond d t e = ap (λ o. by_change (set_effect o d c.regs c.flags) c.segments) e

  pub cmov : (cond : Cond) (d s : Reg) (t : Bool) → holds cond c.flags ≡ Some t → ran (Cmov cond d s) c ≡ Through (with_regs c (if t then with_word c.regs d (word c.regs s) else c.regs))
  unfolding effect_of
  cmov cond d s t e = ap (λ o. by_change (cmov_effect o d s c.regs c.flags) c.segments) e

  pub jcc_falls : (cond : Cond) (by : ℤ) → holds cond c.flags ≡ Some false → ran (Jcc cond by) c ≡ Through c
  unfolding effect_of
  jcc_falls cond by e = ap (λ o. by_change (jcc_effect o by c.regs c.flags) c.segments) e

  -- instructions that only stop or only go on
  pub ud2 : ran Ud2 c ≡ Stopped Invalid
  unfolding effect_of
  ud2 = refl

  pub int3 : ran Int3 c ≡ Stopped Breakpoint
  unfolding effect_of
  int3 = refl

  pub nop : ran Nop c ≡ Through c
  unfolding effect_of
  nop = refl

  -- memory, by what is at its addresses
  pub load : (size : Size) (d : Reg) (m : Mem) (at : ℕ) → address_of c.regs m ≡ at → AreDisjoint c.segments → one_covers reads c.segments at (size_bytes size) ≡ true → ran (Load size d m) c ≡ Through (with_reg c d (le_number (range_at c.segments at (size_bytes size))))
  load size d m at there apart allowed = load_by size d m at (range_at c.segments at (size_bytes size)) there (read_range c.segments at (size_bytes size) apart (some_bytes size) allowed)
    where
      some_bytes : (size : Size) → 1 ≤ size_bytes size
      some_bytes Size.W8 = lit≤ tt
      some_bytes Size.W16 = lit≤ tt
      some_bytes Size.W32 = lit≤ tt
      some_bytes Size.W64 = lit≤ tt

  pub pop : (r : Reg) (at : ℕ) → word c.regs Rsp ≡ at → AreDisjoint c.segments → one_covers reads c.segments at 8 ≡ true → ran (Pop r) c ≡ Through (with_regs c (with_word (with_stack c.regs (pos 8)) r (le_number (range_at c.segments at 8))))
  pop r at there apart allowed = pop_by r (range_at c.segments at 8) (ap (λ p. read_at c.segments p 8) there ∙ read_range c.segments at 8 apart (lit≤ tt) allowed)

  pub store : (size : Size) (m : Mem) (s : Reg) (at n : ℕ) → address_of c.regs m ≡ at → low (size_bits size) (word c.regs s) ≡ n → (x : Written c.segments at (le_bytes (size_bytes size) n)) → ran (Store size m s) c ≡ Through (with_segments c x.segments)
  store size m s at n there same x = store_by size m s at n x.segments there same x.gives

  pub push : (r : Reg) (at n : ℕ) → below c.regs ≡ at → word c.regs r ≡ n → (x : Written c.segments at (le_bytes 8 n)) → ran (Push r) c ≡ Through (record c { regs = with_word c.regs Rsp at; segments = x.segments })
  push r at n there same x =
      push_by r x.segments (ap (λ p. write_at c.segments p (le_bytes 8 (word c.regs r))) there ∙ ap (λ k. write_at c.segments at (le_bytes 8 k)) same ∙ x.gives) ∙
      ap (λ p. Through (record c { regs = with_word c.regs Rsp p; segments = x.segments })) there
