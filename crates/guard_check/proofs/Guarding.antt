-- Where an instruction lies beside a guard, and what is known of the registers at each place of a guard.
use Rattle.std.proofs.Common.{◌≡◌, ℕ, zero, suc, ◌+◌, ◌-◌, ◌*◌, ◌/◌, ◌%◌, ◌^◌, ◌<◌, ◌≤◌, ◌⊎◌, inl, inr, Bool, true, false, List, [], ◌∷◌, ◌++◌, length, Some, refl, sym, ◌∙◌, ap, arith, length-append}
use Rattle.std.specs.Prelude.{bit_and, nat_eq, nat_lt, slice_index, slice_index_or, pos}
use Rattle.std.proofs.lemmas.Bool.{eqb-true}
use Rattle.std.proofs.lemmas.List.{append-nil}
use Rattle.std.proofs.lemmas.Nat.{and_mask}
use Rattle.rd_draw.specs.Draw.{keystream_word}
use Rattle.rd_draw.proofs.Permuted.{shuffled_long, shuffled_holds}
use Rattle.x86_core.specs.declared.reg.Reg.TheVariants.{R10, R11}
use Rattle.x86_core.specs.declared.flags.Flags.{Flags}
use Rattle.x86_core.specs.declared.instr.Wide.{Wide}
use Rattle.x86_core.specs.declared.instr.ImmOp.{ImmOp}
use Rattle.x86_core.specs.declared.instr.Cond.{Cond}
use Rattle.x86_core.specs.declared.instr.Instr.{Instr}
use Rattle.x86_core.specs.declared.instr.Instr.TheVariants.{Mov, AluImm, Jcc, Ud2}
use Rattle.x86_core.specs.Registers.{word, with_word}
use Rattle.x86_core.specs.Arithmetic.{flag_if, known}
use Rattle.x86_core.specs.Encoding.{encoding}
use Rattle.x86_core.specs.Effect.{effect_of}
use Rattle.obj_core.specs.declared.object.Object.{Object}
use Rattle.obj_core.specs.declared.object.Place.{Place}
use Rattle.obj_core.specs.Slots.{slot_base, slot_purpose, positions}
use Rattle.obj_core.specs.Disassembly.{spelled, size_of}
use Rattle.obj_core.proofs.Spelling.{length-spelled-append}
use Rattle.guard_check.specs.Guard.{guard}
use Rattle.guard_check.specs.Straight.{IsLanding}
use Rattle.guard_check.proofs.Words.{AreWords, index_same, index_other}
use Rattle.guard_check.proofs.Rows.{Compared, Longer, Shorter, compared}

-- an instruction at an offset, and a guard that begins at another one: before it, one of the ten, or behind it
pub data Where (slots a off : ℕ) (i : Instr) : Type 0 where
  Before : off + size_of i ≤ a → Where slots a off i
  Copies : off ≡ a → i ≡ Mov Wide.W64 R10 R11 → Where slots a off i
  Subtracts : off ≡ a + 3 → i ≡ AluImm ImmOp.Sub Wide.W64 R10 (pos slot_base) → Where slots a off i
  Compares : off ≡ a + 10 → i ≡ AluImm ImmOp.Cmp Wide.W64 R10 (pos (16 * slots)) → Where slots a off i
  Branches : off ≡ a + 17 → i ≡ Jcc Cond.B (pos 2) → Where slots a off i
  Stops : off ≡ a + 23 → i ≡ Ud2 → Where slots a off i
  Masks : off ≡ a + 25 → i ≡ AluImm ImmOp.And Wide.W64 R10 (pos 15) → Where slots a off i
  Passes : off ≡ a + 32 → i ≡ Jcc Cond.E (pos 15) → Where slots a off i
  ComparesRest : off ≡ a + 38 → i ≡ AluImm ImmOp.Cmp Wide.W64 R10 (pos 5) → Where slots a off i
  PassesRest : off ≡ a + 45 → i ≡ Jcc Cond.E (pos 2) → Where slots a off i
  StopsRest : off ≡ a + 51 → i ≡ Ud2 → Where slots a off i
  Behind : a + 53 ≤ off → Where slots a off i

module _ (slots : ℕ) (x : Instr) (post : List Instr) (a off : ℕ) (i : Instr) (after : List Instr) where
  -- among the ten, or behind them
  inner : (s : List Instr) → guard slots ++ x ∷ post ≡ s ++ i ∷ after → off ≡ a + length (spelled s) → Where slots a off i
  inner [] e o = Copies (omega (arith, o)) (cc)
  inner (s0 ∷ []) e o =
      let row : s0 ∷ [] ≡ Mov Wide.W64 R10 R11 ∷ [] = cc in
      let long : length (spelled (s0 ∷ [])) ≡ 3 = ap (λ (r : List Instr). length (spelled r)) row in
      Subtracts (omega (arith, o, long)) (cc)
  inner (s0 ∷ s1 ∷ []) e o =
      let row : s0 ∷ s1 ∷ [] ≡ Mov Wide.W64 R10 R11 ∷ AluImm ImmOp.Sub Wide.W64 R10 (pos slot_base) ∷ [] = cc in
      let long : length (spelled (s0 ∷ s1 ∷ [])) ≡ 10 = ap (λ (r : List Instr). length (spelled r)) row in
      Compares (omega (arith, o, long)) (cc)
  inner (s0 ∷ s1 ∷ s2 ∷ []) e o =
      let row : s0 ∷ s1 ∷ s2 ∷ [] ≡ Mov Wide.W64 R10 R11 ∷ AluImm ImmOp.Sub Wide.W64 R10 (pos slot_base) ∷ AluImm ImmOp.Cmp Wide.W64 R10 (pos (16 * slots)) ∷ [] = cc in
      let long : length (spelled (s0 ∷ s1 ∷ s2 ∷ [])) ≡ 17 = ap (λ (r : List Instr). length (spelled r)) row in
      Branches (omega (arith, o, long)) (cc)
  inner (s0 ∷ s1 ∷ s2 ∷ s3 ∷ []) e o =
      let row : s0 ∷ s1 ∷ s2 ∷ s3 ∷ [] ≡ Mov Wide.W64 R10 R11 ∷ AluImm ImmOp.Sub Wide.W64 R10 (pos slot_base) ∷ AluImm ImmOp.Cmp Wide.W64 R10 (pos (16 * slots)) ∷ Jcc Cond.B (pos 2) ∷ [] = cc in
      let long : length (spelled (s0 ∷ s1 ∷ s2 ∷ s3 ∷ [])) ≡ 23 = ap (λ (r : List Instr). length (spelled r)) row in
      Stops (omega (arith, o, long)) (cc)
  inner (s0 ∷ s1 ∷ s2 ∷ s3 ∷ s4 ∷ []) e o =
      let row : s0 ∷ s1 ∷ s2 ∷ s3 ∷ s4 ∷ [] ≡ Mov Wide.W64 R10 R11 ∷ AluImm ImmOp.Sub Wide.W64 R10 (pos slot_base) ∷ AluImm ImmOp.Cmp Wide.W64 R10 (pos (16 * slots)) ∷ Jcc Cond.B (pos 2) ∷ Ud2 ∷ [] = cc in
      let long : length (spelled (s0 ∷ s1 ∷ s2 ∷ s3 ∷ s4 ∷ [])) ≡ 25 = ap (λ (r : List Instr). length (spelled r)) row in
      Masks (omega (arith, o, long)) (cc)
  inner (s0 ∷ s1 ∷ s2 ∷ s3 ∷ s4 ∷ s5 ∷ []) e o =
      let row : s0 ∷ s1 ∷ s2 ∷ s3 ∷ s4 ∷ s5 ∷ [] ≡ Mov Wide.W64 R10 R11 ∷ AluImm ImmOp.Sub Wide.W64 R10 (pos slot_base) ∷ AluImm ImmOp.Cmp Wide.W64 R10 (pos (16 * slots)) ∷ Jcc Cond.B (pos 2) ∷ Ud2 ∷ AluImm ImmOp.And Wide.W64 R10 (pos 15) ∷ [] = cc in
      let long : length (spelled (s0 ∷ s1 ∷ s2 ∷ s3 ∷ s4 ∷ s5 ∷ [])) ≡ 32 = ap (λ (r : List Instr). length (spelled r)) row in
      Passes (omega (arith, o, long)) (cc)
  inner (s0 ∷ s1 ∷ s2 ∷ s3 ∷ s4 ∷ s5 ∷ s6 ∷ []) e o =
      let row : s0 ∷ s1 ∷ s2 ∷ s3 ∷ s4 ∷ s5 ∷ s6 ∷ [] ≡ Mov Wide.W64 R10 R11 ∷ AluImm ImmOp.Sub Wide.W64 R10 (pos slot_base) ∷ AluImm ImmOp.Cmp Wide.W64 R10 (pos (16 * slots)) ∷ Jcc Cond.B (pos 2) ∷ Ud2 ∷ AluImm ImmOp.And Wide.W64 R10 (pos 15) ∷ Jcc Cond.E (pos 15) ∷ [] = cc in
      let long : length (spelled (s0 ∷ s1 ∷ s2 ∷ s3 ∷ s4 ∷ s5 ∷ s6 ∷ [])) ≡ 38 = ap (λ (r : List Instr). length (spelled r)) row in
      ComparesRest (omega (arith, o, long)) (cc)
  inner (s0 ∷ s1 ∷ s2 ∷ s3 ∷ s4 ∷ s5 ∷ s6 ∷ s7 ∷ []) e o =
      let row : s0 ∷ s1 ∷ s2 ∷ s3 ∷ s4 ∷ s5 ∷ s6 ∷ s7 ∷ [] ≡ Mov Wide.W64 R10 R11 ∷ AluImm ImmOp.Sub Wide.W64 R10 (pos slot_base) ∷ AluImm ImmOp.Cmp Wide.W64 R10 (pos (16 * slots)) ∷ Jcc Cond.B (pos 2) ∷ Ud2 ∷ AluImm ImmOp.And Wide.W64 R10 (pos 15) ∷ Jcc Cond.E (pos 15) ∷ AluImm ImmOp.Cmp Wide.W64 R10 (pos 5) ∷ [] = cc in
      let long : length (spelled (s0 ∷ s1 ∷ s2 ∷ s3 ∷ s4 ∷ s5 ∷ s6 ∷ s7 ∷ [])) ≡ 45 = ap (λ (r : List Instr). length (spelled r)) row in
      PassesRest (omega (arith, o, long)) (cc)
  inner (s0 ∷ s1 ∷ s2 ∷ s3 ∷ s4 ∷ s5 ∷ s6 ∷ s7 ∷ s8 ∷ []) e o =
      let row : s0 ∷ s1 ∷ s2 ∷ s3 ∷ s4 ∷ s5 ∷ s6 ∷ s7 ∷ s8 ∷ [] ≡ Mov Wide.W64 R10 R11 ∷ AluImm ImmOp.Sub Wide.W64 R10 (pos slot_base) ∷ AluImm ImmOp.Cmp Wide.W64 R10 (pos (16 * slots)) ∷ Jcc Cond.B (pos 2) ∷ Ud2 ∷ AluImm ImmOp.And Wide.W64 R10 (pos 15) ∷ Jcc Cond.E (pos 15) ∷ AluImm ImmOp.Cmp Wide.W64 R10 (pos 5) ∷ Jcc Cond.E (pos 2) ∷ [] = cc in
      let long : length (spelled (s0 ∷ s1 ∷ s2 ∷ s3 ∷ s4 ∷ s5 ∷ s6 ∷ s7 ∷ s8 ∷ [])) ≡ 51 = ap (λ (r : List Instr). length (spelled r)) row in
      StopsRest (omega (arith, o, long)) (cc)
  inner (s0 ∷ s1 ∷ s2 ∷ s3 ∷ s4 ∷ s5 ∷ s6 ∷ s7 ∷ s8 ∷ s9 ∷ s) e o =
      let row : s0 ∷ s1 ∷ s2 ∷ s3 ∷ s4 ∷ s5 ∷ s6 ∷ s7 ∷ s8 ∷ s9 ∷ s ≡ Mov Wide.W64 R10 R11 ∷ AluImm ImmOp.Sub Wide.W64 R10 (pos slot_base) ∷ AluImm ImmOp.Cmp Wide.W64 R10 (pos (16 * slots)) ∷ Jcc Cond.B (pos 2) ∷ Ud2 ∷ AluImm ImmOp.And Wide.W64 R10 (pos 15) ∷ Jcc Cond.E (pos 15) ∷ AluImm ImmOp.Cmp Wide.W64 R10 (pos 5) ∷ Jcc Cond.E (pos 2) ∷ Ud2 ∷ s = cc in
      let long : length (spelled (s0 ∷ s1 ∷ s2 ∷ s3 ∷ s4 ∷ s5 ∷ s6 ∷ s7 ∷ s8 ∷ s9 ∷ s)) ≡ 53 + length (spelled s) = ap (λ (r : List Instr). length (spelled r)) row ∙ length-spelled-append (guard slots) s in
      Behind (omega (arith, o, long))

-- each instruction of a row with a guard has its place
pub located : (slots : ℕ) (pre : List Instr) (x : Instr) (post before : List Instr) (i : Instr) (after : List Instr) → pre ++ (guard slots ++ x ∷ post) ≡ before ++ i ∷ after → Where slots (length (spelled pre)) (length (spelled before)) i
located slots pre x post before i after e = by_cut (compared pre before (guard slots ++ x ∷ post) (i ∷ after) e)
  where
    longer : (s : List Instr) → pre ≡ before ++ s → i ∷ after ≡ s ++ (guard slots ++ x ∷ post) → Where slots (length (spelled pre)) (length (spelled before)) i
    longer [] f g =
        let same : length (spelled pre) ≡ length (spelled before) = ap (λ (r : List Instr). length (spelled r)) (f ∙ append-nil before) in
        Copies (sym same) (cc)
    longer (j ∷ s) f g =
        let same : i ≡ j = cc in
        let size : size_of i ≡ size_of j = ap size_of same in
        let long : length (spelled pre) ≡ length (spelled before) + length (spelled (j ∷ s)) = ap (λ (r : List Instr). length (spelled r)) f ∙ length-spelled-append before (j ∷ s) in
        Before (omega (arith, long, size, length-append (encoding j) (spelled s)))

    by_cut : Compared pre before (guard slots ++ x ∷ post) (i ∷ after) → Where slots (length (spelled pre)) (length (spelled before)) i
    by_cut (Longer s f g) = longer s f g
    by_cut (Shorter s f g) = inner slots x post (length (spelled pre)) (length (spelled before)) i after s g (ap (λ (r : List Instr). length (spelled r)) f ∙ length-spelled-append pre s)

-- r10 holds r11 counted from the first slot
abbrev pub IsCounted : List ℕ → Type 0
IsCounted regs = word regs R10 ≡ (word regs R11 + 2 ^ 64 - slot_base) % 2 ^ 64

-- r11 is so many bytes behind the first slot's start, among the slots, and r10 the rest by 16
pub record IsRest (slots : ℕ) (regs : List ℕ) : Type 0 where
  pub by : ℕ
  pub within : by < 16 * slots
  pub address : word regs R11 ≡ slot_base + by
  pub rest : word regs R10 ≡ by % 16

-- what is known of a run at an offset, where a guard begins at another one
pub record Facts (o : Object) (a off : ℕ) (regs : List ℕ) (flags : Flags) : Type 0 where
  pub copied : off ≡ a + 3 → word regs R10 ≡ word regs R11
  pub counted : off ≡ a + 10 → IsCounted regs
  pub compared : off ≡ a + 17 → IsCounted regs × (flags.c ≡ flag_if (nat_lt (word regs R10) (16 * length o.slots)))
  pub within : off ≡ a + 25 → IsCounted regs × (word regs R10 < 16 * length o.slots)
  pub masked : off ≡ a + 32 → IsRest (length o.slots) regs × (flags.z ≡ flag_if (nat_eq (word regs R10) 0))
  pub rest : off ≡ a + 38 → IsRest (length o.slots) regs
  pub rest_compared : off ≡ a + 45 → IsRest (length o.slots) regs × (flags.z ≡ flag_if (nat_eq ((word regs R10 + 2 ^ 64 - 5) % 2 ^ 64) 0))
  pub passed : off ≡ a + 53 → IsLanding o (word regs R11)

-- outside of the guard nothing needs to be known
pub outside : (o : Object) (a off : ℕ) (regs : List ℕ) (flags : Flags) → (off ≤ a) ⊎ (a + 53 < off) → Facts o a off regs flags
outside o a off regs flags (inl h) = record {
  copied = λ e. absurd (omega (arith, e, h));
  counted = λ e. absurd (omega (arith, e, h));
  compared = λ e. absurd (omega (arith, e, h));
  within = λ e. absurd (omega (arith, e, h));
  masked = λ e. absurd (omega (arith, e, h));
  rest = λ e. absurd (omega (arith, e, h));
  rest_compared = λ e. absurd (omega (arith, e, h));
  passed = λ e. absurd (omega (arith, e, h));
}
outside o a off regs flags (inr h) = record {
  copied = λ e. absurd (omega (arith, e, h));
  counted = λ e. absurd (omega (arith, e, h));
  compared = λ e. absurd (omega (arith, e, h));
  within = λ e. absurd (omega (arith, e, h));
  masked = λ e. absurd (omega (arith, e, h));
  rest = λ e. absurd (omega (arith, e, h));
  rest_compared = λ e. absurd (omega (arith, e, h));
  passed = λ e. absurd (omega (arith, e, h));
}

-- at one offset of it
pub only_copied : (o : Object) (a off : ℕ) (regs : List ℕ) (flags : Flags) → off ≡ a + 3 → word regs R10 ≡ word regs R11 → Facts o a off regs flags
only_copied o a off regs flags h fact = record {
  copied = λ e. fact;
  counted = λ e. absurd (omega (arith, e, h));
  compared = λ e. absurd (omega (arith, e, h));
  within = λ e. absurd (omega (arith, e, h));
  masked = λ e. absurd (omega (arith, e, h));
  rest = λ e. absurd (omega (arith, e, h));
  rest_compared = λ e. absurd (omega (arith, e, h));
  passed = λ e. absurd (omega (arith, e, h));
}

-- at one offset of it
pub only_counted : (o : Object) (a off : ℕ) (regs : List ℕ) (flags : Flags) → off ≡ a + 10 → IsCounted regs → Facts o a off regs flags
only_counted o a off regs flags h fact = record {
  copied = λ e. absurd (omega (arith, e, h));
  counted = λ e. fact;
  compared = λ e. absurd (omega (arith, e, h));
  within = λ e. absurd (omega (arith, e, h));
  masked = λ e. absurd (omega (arith, e, h));
  rest = λ e. absurd (omega (arith, e, h));
  rest_compared = λ e. absurd (omega (arith, e, h));
  passed = λ e. absurd (omega (arith, e, h));
}

-- at one offset of it
pub only_compared : (o : Object) (a off : ℕ) (regs : List ℕ) (flags : Flags) → off ≡ a + 17 → (IsCounted regs × (flags.c ≡ flag_if (nat_lt (word regs R10) (16 * length o.slots)))) → Facts o a off regs flags
only_compared o a off regs flags h fact = record {
  copied = λ e. absurd (omega (arith, e, h));
  counted = λ e. absurd (omega (arith, e, h));
  compared = λ e. fact;
  within = λ e. absurd (omega (arith, e, h));
  masked = λ e. absurd (omega (arith, e, h));
  rest = λ e. absurd (omega (arith, e, h));
  rest_compared = λ e. absurd (omega (arith, e, h));
  passed = λ e. absurd (omega (arith, e, h));
}

-- at one offset of it
pub only_within : (o : Object) (a off : ℕ) (regs : List ℕ) (flags : Flags) → off ≡ a + 25 → (IsCounted regs × (word regs R10 < 16 * length o.slots)) → Facts o a off regs flags
only_within o a off regs flags h fact = record {
  copied = λ e. absurd (omega (arith, e, h));
  counted = λ e. absurd (omega (arith, e, h));
  compared = λ e. absurd (omega (arith, e, h));
  within = λ e. fact;
  masked = λ e. absurd (omega (arith, e, h));
  rest = λ e. absurd (omega (arith, e, h));
  rest_compared = λ e. absurd (omega (arith, e, h));
  passed = λ e. absurd (omega (arith, e, h));
}

-- at one offset of it
pub only_masked : (o : Object) (a off : ℕ) (regs : List ℕ) (flags : Flags) → off ≡ a + 32 → (IsRest (length o.slots) regs × (flags.z ≡ flag_if (nat_eq (word regs R10) 0))) → Facts o a off regs flags
only_masked o a off regs flags h fact = record {
  copied = λ e. absurd (omega (arith, e, h));
  counted = λ e. absurd (omega (arith, e, h));
  compared = λ e. absurd (omega (arith, e, h));
  within = λ e. absurd (omega (arith, e, h));
  masked = λ e. fact;
  rest = λ e. absurd (omega (arith, e, h));
  rest_compared = λ e. absurd (omega (arith, e, h));
  passed = λ e. absurd (omega (arith, e, h));
}

-- at one offset of it
pub only_rest : (o : Object) (a off : ℕ) (regs : List ℕ) (flags : Flags) → off ≡ a + 38 → IsRest (length o.slots) regs → Facts o a off regs flags
only_rest o a off regs flags h fact = record {
  copied = λ e. absurd (omega (arith, e, h));
  counted = λ e. absurd (omega (arith, e, h));
  compared = λ e. absurd (omega (arith, e, h));
  within = λ e. absurd (omega (arith, e, h));
  masked = λ e. absurd (omega (arith, e, h));
  rest = λ e. fact;
  rest_compared = λ e. absurd (omega (arith, e, h));
  passed = λ e. absurd (omega (arith, e, h));
}

-- at one offset of it
pub only_rest_compared : (o : Object) (a off : ℕ) (regs : List ℕ) (flags : Flags) → off ≡ a + 45 → (IsRest (length o.slots) regs × (flags.z ≡ flag_if (nat_eq ((word regs R10 + 2 ^ 64 - 5) % 2 ^ 64) 0))) → Facts o a off regs flags
only_rest_compared o a off regs flags h fact = record {
  copied = λ e. absurd (omega (arith, e, h));
  counted = λ e. absurd (omega (arith, e, h));
  compared = λ e. absurd (omega (arith, e, h));
  within = λ e. absurd (omega (arith, e, h));
  masked = λ e. absurd (omega (arith, e, h));
  rest = λ e. absurd (omega (arith, e, h));
  rest_compared = λ e. fact;
  passed = λ e. absurd (omega (arith, e, h));
}

-- at one offset of it
pub only_passed : (o : Object) (a off : ℕ) (regs : List ℕ) (flags : Flags) → off ≡ a + 53 → IsLanding o (word regs R11) → Facts o a off regs flags
only_passed o a off regs flags h fact = record {
  copied = λ e. absurd (omega (arith, e, h));
  counted = λ e. absurd (omega (arith, e, h));
  compared = λ e. absurd (omega (arith, e, h));
  within = λ e. absurd (omega (arith, e, h));
  masked = λ e. absurd (omega (arith, e, h));
  rest = λ e. absurd (omega (arith, e, h));
  rest_compared = λ e. absurd (omega (arith, e, h));
  passed = λ e. fact;
}

pub none_23 : (o : Object) (a off : ℕ) (regs : List ℕ) (flags : Flags) → off ≡ a + 23 → Facts o a off regs flags
none_23 o a off regs flags h = record {
  copied = λ e. absurd (omega (arith, e, h));
  counted = λ e. absurd (omega (arith, e, h));
  compared = λ e. absurd (omega (arith, e, h));
  within = λ e. absurd (omega (arith, e, h));
  masked = λ e. absurd (omega (arith, e, h));
  rest = λ e. absurd (omega (arith, e, h));
  rest_compared = λ e. absurd (omega (arith, e, h));
  passed = λ e. absurd (omega (arith, e, h));
}

pub none_51 : (o : Object) (a off : ℕ) (regs : List ℕ) (flags : Flags) → off ≡ a + 51 → Facts o a off regs flags
none_51 o a off regs flags h = record {
  copied = λ e. absurd (omega (arith, e, h));
  counted = λ e. absurd (omega (arith, e, h));
  compared = λ e. absurd (omega (arith, e, h));
  within = λ e. absurd (omega (arith, e, h));
  masked = λ e. absurd (omega (arith, e, h));
  rest = λ e. absurd (omega (arith, e, h));
  rest_compared = λ e. absurd (omega (arith, e, h));
  passed = λ e. absurd (omega (arith, e, h));
}

-- a place of a list, whatever stands for what is missing
any_default : (xs : List ℕ) (k d e : ℕ) → k < length xs → slice_index_or xs k d ≡ slice_index_or xs k e
any_default [] k d e lt = absurd (omega (arith, lt))
any_default (x ∷ xs) zero d e lt = refl
any_default (x ∷ xs) (suc k) d e lt = any_default xs k d e (omega (arith, lt))

-- each position is that of a slot
record HasPosition (o : Object) (p : ℕ) : Type 0 where
  slot : ℕ
  within : slot < length o.slots
  position : slice_index (positions o) slot ≡ p

position_of : (o : Object) (p : ℕ) → p < length o.slots → HasPosition o p
unfolding positions
position_of o p lt =
    let words = keystream_word o.slot_seed slot_purpose 0 in
    let x = shuffled_holds words (length o.slots) p lt in
    let long = shuffled_long words (length o.slots) in
    record { slot = x.0; within = omega (arith, x.1, long); position = any_default (positions o) x.0 0 p x.1 ∙ x.2 }

-- a number of bytes behind the first slot's start whose rest is 0 or 5
pub lands : (o : Object) (w by : ℕ) → by < 16 * length o.slots → w ≡ slot_base + by → (by % 16 ≡ 0) ⊎ (by % 16 ≡ 5) → IsLanding o w
lands o w by lt e h =
    let x = position_of o (by / 16) (omega (arith, lt)) in
    let p = x.position in
    (Place.Slot x.slot (by % 16), (x.within, h, omega (arith, e, p)))

-- what a flag that a test decides says
pub flag_says : (t b : Bool) → known (flag_if t) ≡ Some b → t ≡ b
flag_says true b e = cc
flag_says false b e = cc

module _ (regs : List ℕ) (flags : Flags) (h : AreWords regs) where
  -- the words after another one was put into r10
  new_10 : (n : ℕ) → word (with_word regs R10 n) R10 ≡ n
  new_10 n = let long = h.long in index_same regs 10 n (omega (arith, long))

  new_11 : (n : ℕ) → word (with_word regs R10 n) R11 ≡ word regs R11
  new_11 n = index_other regs 10 n 11 (λ e. absurd (omega (arith, e)))

  whole : (n : ℕ) → n < 2 ^ 64 → n % 2 ^ 64 ≡ n
  whole n lt = omega (arith, lt)

  small : (r : ℕ) → slice_index regs r < 2 ^ 64
  small r = h.small r

  -- the ten instructions, one after another
  pub copies : word (effect_of (Mov Wide.W64 R10 R11) regs flags).regs R10 ≡ word (effect_of (Mov Wide.W64 R10 R11) regs flags).regs R11
  unfolding effect_of
  copies = new_10 (word regs R11 % 2 ^ 64) ∙ whole (word regs R11) (small 11) ∙ sym (new_11 (word regs R11 % 2 ^ 64))

  pub subtracts : word regs R10 ≡ word regs R11 → IsCounted (effect_of (AluImm ImmOp.Sub Wide.W64 R10 (pos slot_base)) regs flags).regs
  unfolding effect_of
  subtracts e =
      let r = (word regs R10 % 2 ^ 64 + 2 ^ 64 - slot_base) % 2 ^ 64 in
      new_10 r ∙ ap (λ n. (n + 2 ^ 64 - slot_base) % 2 ^ 64) (whole (word regs R10) (small 10) ∙ e ∙ sym (new_11 r))

  pub compares : (o : Object) → length o.slots ≤ 1048576 → IsCounted regs → let x = effect_of (AluImm ImmOp.Cmp Wide.W64 R10 (pos (16 * length o.slots))) regs flags in IsCounted x.regs × (x.flags.c ≡ flag_if (nat_lt (word x.regs R10) (16 * length o.slots)))
  unfolding effect_of
  compares o few e =
      let fits : 16 * length o.slots < 2 ^ 64 = omega (arith, few) in
      (e, ap (λ n. flag_if (nat_lt n (16 * length o.slots % 2 ^ 64))) (whole (word regs R10) (small 10)) ∙ ap (λ n. flag_if (nat_lt (word regs R10) n)) (whole (16 * length o.slots) fits))

  pub masks : (o : Object) → length o.slots ≤ 1048576 → IsCounted regs → word regs R10 < 16 * length o.slots → let x = effect_of (AluImm ImmOp.And Wide.W64 R10 (pos 15)) regs flags in IsRest (length o.slots) x.regs × (x.flags.z ≡ flag_if (nat_eq (word x.regs R10) 0))
  unfolding effect_of
  masks o few e lt =
      let n = word regs R10 in
      let m : bit_and (n % 2 ^ 64) 15 ≡ n % 16 = and_mask (n % 2 ^ 64) 4 ∙ rest_of n in
      let r = bit_and (n % 2 ^ 64) 15 in
      let s = small 11 in
      (record { by = n; within = lt; address = new_11 r ∙ counted (word regs R11) n (16 * length o.slots) s e lt (omega (arith, few)); rest = new_10 r ∙ m }, ap (λ k. flag_if (nat_eq k 0)) (sym (new_10 r)))
    where
      rest_of : (k : ℕ) → k % 2 ^ 64 % 16 ≡ k % 16
      rest_of k = omega arith

      counted : (w k c : ℕ) → w < 2 ^ 64 → k ≡ (w + 2 ^ 64 - slot_base) % 2 ^ 64 → k < c → c ≤ 16777216 → w ≡ slot_base + k
      counted w k c s e lt few = omega (arith, s, e, lt, few)

  pub compares_rest : (slots : ℕ) → IsRest slots regs → let x = effect_of (AluImm ImmOp.Cmp Wide.W64 R10 (pos 5)) regs flags in IsRest slots x.regs × (x.flags.z ≡ flag_if (nat_eq ((word x.regs R10 + 2 ^ 64 - 5) % 2 ^ 64) 0))
  unfolding effect_of
  compares_rest slots e = (e, ap (λ n. flag_if (nat_eq ((n + 2 ^ 64 - 5) % 2 ^ 64) 0)) (whole (word regs R10) (small 10)))

-- a rest of 0, and of 5
pub rest_is_0 : (slots : ℕ) (regs : List ℕ) (e : IsRest slots regs) → nat_eq (word regs R10) 0 ≡ true → e.by % 16 ≡ 0
rest_is_0 slots regs e h = let z = eqb-true (word regs R10) 0 h in let r = e.rest in omega (arith, z, r)

pub rest_is_5 : (slots : ℕ) (regs : List ℕ) (e : IsRest slots regs) → nat_eq ((word regs R10 + 2 ^ 64 - 5) % 2 ^ 64) 0 ≡ true → e.by % 16 ≡ 5
rest_is_5 slots regs e h = five (word regs R10) e.by (eqb-true ((word regs R10 + 2 ^ 64 - 5) % 2 ^ 64) 0 h) e.rest
  where
    five : (n by : ℕ) → (n + 2 ^ 64 - 5) % 2 ^ 64 ≡ 0 → n ≡ by % 16 → by % 16 ≡ 5
    five n by z r = omega (arith, z, r)
