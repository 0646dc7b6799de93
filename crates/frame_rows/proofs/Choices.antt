-- What comparisons, choices and extensions make in rax.
use Rattle.std.proofs.Common.{◌≡◌, ℕ, ◌+◌, ◌-◌, ◌*◌, ◌/◌, ◌%◌, ◌^◌, ◌<◌, Bool, true, false, nat_eq, if◌then◌else◌, List, [], ◌∷◌, Some, refl, ◌∙◌, ap, arith}
use Rattle.std.specs.Prelude.{bit_and, pos}
use Rattle.std.proofs.lemmas.Nat.{and_mask}
use Rattle.rd_num.specs.declared.width.Width.{Width}
use Rattle.rd_num.specs.declared.width.Width.TheVariants.{W1, W8, W16, W32, W64}
use Rattle.ir_core.specs.declared.instruction.Pred.{Pred}
use Rattle.ir_core.specs.Arithmetic.{compared}
use Rattle.x86_core.specs.declared.flags.Flags.{Flags}
use Rattle.x86_core.specs.declared.reg.Reg.TheVariants.{Rax, Rcx, Rdx}
use Rattle.x86_core.specs.declared.image.Segment.{Segment}
use Rattle.x86_core.specs.declared.instr.Wide.{Wide}
use Rattle.x86_core.specs.declared.instr.AluOp.{AluOp}
use Rattle.x86_core.specs.declared.instr.ImmOp.{ImmOp}
use Rattle.x86_core.specs.declared.instr.WidenKind.{WidenKind}
use Rattle.x86_core.specs.declared.instr.Cond.{Cond}
use Rattle.x86_core.specs.declared.instr.Instr.{Instr}
use Rattle.x86_core.specs.declared.instr.Instr.TheVariants.{MovImm32, Alu, AluImm, Widen, SetCond, Cmov}
use Rattle.x86_core.specs.Arithmetic.{alu_flags, flag_if, known, holds}
use Rattle.x86_core.specs.Effect.{effect_of, set_effect, cmov_effect}
use Rattle.x86_rows.specs.Straight.{Through, by_change, ran}
use Rattle.low_core.specs.SelShaped.{IsWide}
use Rattle.low_core.specs.SelStep.{low_bits}
use Rattle.frame_rows.specs.Words.{Words, in_order, core_of}
use Rattle.frame_rows.specs.Code.{filled, is_signed, condition, bit_condition, test_row}
use Rattle.frame_rows.proofs.Results.{Makes}
use Rattle.frame_rows.proofs.Leaves.{Passes, fill_of, cut_passes, fill_passes}
use Rattle.frame_rows.proofs.Plain.{makes_one, makes_after, makes_is, scratch_same}
use Rattle.frame_rows.proofs.Compares.{compare_flags, condition_says, fill_small, filled_compared, bit_condition_says}

-- a truth value as a word
abbrev pub truth : Bool → ℕ
truth b = if b then 1 else 0

pub truth_small : (b : Bool) → truth b < 2 ^ 64
truth_small true = omega arith
truth_small false = omega arith

module _ (w : Words) (f : Flags) (ss : List Segment) where
  -- rax against rcx
  compare_runs : ran (Alu AluOp.Cmp Wide.W64 Rax Rcx) (core_of w f ss) ≡ Through (core_of w (compare_flags (w.rax % 2 ^ 64) (w.rcx % 2 ^ 64)) ss)
  unfolding effect_of
  compare_runs = refl

  -- a condition that is known goes into the low byte of rax, and from there into all of it
  set_runs : (c : Cond) (b : Bool) → holds c f ≡ Some b → ran (SetCond c Rax) (core_of w f ss) ≡ Through (core_of (record w { rax = w.rax / 2 ^ 8 * 2 ^ 8 + truth b }) f ss)
  unfolding effect_of
  set_runs c b e = ap (λ h. by_change (set_effect h Rax (in_order w) f) ss) e

  low_byte : (b : Bool) (n : ℕ) → (n / 2 ^ 8 * 2 ^ 8 + truth b) % 2 ^ 8 ≡ truth b
  low_byte true n = omega arith
  low_byte false n = omega arith

  -- rcx in place of rax where a condition that is known holds
  move_runs : (c : Cond) (b : Bool) → holds c f ≡ Some b → ran (Cmov c Rax Rcx) (core_of w f ss) ≡ Through (core_of (record w { rax = if b then w.rcx else w.rax }) f ss)
  unfolding effect_of
  move_runs c b e = ap (λ h. by_change (cmov_effect h Rax Rcx (in_order w) f) ss) e ∙ by_choice b
    where
      by_choice : (b : Bool) → by_change (cmov_effect (Some b) Rax Rcx (in_order w) f) ss ≡ Through (core_of (record w { rax = if b then w.rcx else w.rax }) f ss)
      by_choice true = refl
      by_choice false = refl

  one_runs : ran (MovImm32 Rdx 1) (core_of w f ss) ≡ Through (core_of (record w { rdx = 1 }) f ss)
  unfolding effect_of
  one_runs = refl

  -- the low bit of a register by another one
  first_bit : Passes (Alu AluOp.And Wide.W32 Rax Rdx) w f ss (record w { rax = bit_and (w.rax % 2 ^ 32) (w.rdx % 2 ^ 32) })
  unfolding effect_of
  first_bit = record { flags = _; runs = refl }

  second_bit : Passes (Alu AluOp.And Wide.W32 Rcx Rdx) w f ss (record w { rcx = bit_and (w.rcx % 2 ^ 32) (w.rdx % 2 ^ 32) })
  unfolding effect_of
  second_bit = record { flags = _; runs = refl }

  -- the low bit of rdx, with its test
  abbrev bit_flags : Flags
  bit_flags = alu_flags AluOp.And 32 (w.rdx % 2 ^ 32) 1 (bit_and (w.rdx % 2 ^ 32) 1)

  bit_runs : ran (AluImm ImmOp.And Wide.W32 Rdx (pos 1)) (core_of w f ss) ≡ Through (core_of (record w { rdx = bit_and (w.rdx % 2 ^ 32) 1 }) bit_flags ss)
  unfolding effect_of
  bit_runs = refl

  -- nothing in rax
  pub zero_passes : Passes (Alu AluOp.Sub Wide.W32 Rax Rax) w f ss (record w { rax = (w.rax % 2 ^ 32 + 2 ^ 32 - w.rax % 2 ^ 32) % 2 ^ 32 })
  unfolding effect_of
  zero_passes = record { flags = _; runs = refl }

one_bit : (n : ℕ) → bit_and (n % 2 ^ 32) 1 ≡ n % 2
one_bit n = and_mask (n % 2 ^ 32) 1 ∙ omega arith

flag_known : (b : Bool) → known (flag_if b) ≡ Some b
flag_known true = refl
flag_known false = refl

-- the tail of a comparison, once rax and rcx have these words and the condition says so
answer_makes : (w : Words) (f : Flags) (ss : List Segment) (c : Cond) (b : Bool) → holds c (compare_flags (w.rax % 2 ^ 64) (w.rcx % 2 ^ 64)) ≡ Some b →
    Makes (Alu AluOp.Cmp Wide.W64 Rax Rcx ∷ SetCond c Rax ∷ Widen WidenKind.Zero8 Rax Rax ∷ []) w f ss (truth b)
answer_makes w f ss c b e =
    let f2 = compare_flags (w.rax % 2 ^ 64) (w.rcx % 2 ^ 64) in
    let w2 : Words = record w { rax = w.rax / 2 ^ 8 * 2 ^ 8 + truth b } in
    let row : List Instr = Widen WidenKind.Zero8 Rax Rax ∷ [] in
    let byte : Passes (Widen WidenKind.Zero8 Rax Rax) w2 f2 ss (record w { rax = (w.rax / 2 ^ 8 * 2 ^ 8 + truth b) % 2 ^ 8 }) = cut_passes w2 f2 ss W8 Rax in
    makes_after (Alu AluOp.Cmp Wide.W64 Rax Rcx) (SetCond c Rax ∷ row) w f ss w (truth b) (record { flags = f2; runs = compare_runs w f ss }) (scratch_same w w.rax w.rcx w.rdx)
    (makes_after (SetCond c Rax) row w f2 ss w2 (truth b) (record { flags = f2; runs = set_runs w f2 ss c b e }) (scratch_same w w2.rax w.rcx w.rdx)
    (makes_is row w2 f2 ss _ (truth b) (low_byte w f ss b w.rax) (makes_one (Widen WidenKind.Zero8 Rax Rax) w2 f2 ss _ byte (scratch_same w2 _ w.rcx w.rdx))))

module _ (w : Words) (f : Flags) (ss : List Segment) (p : Pred) where
  wide_makes : (wi : Width) → IsWide wi → Makes (filled (is_signed p) wi Rax ∷ filled (is_signed p) wi Rcx ∷ Alu AluOp.Cmp Wide.W64 Rax Rcx ∷ SetCond (condition p) Rax ∷ Widen WidenKind.Zero8 Rax Rax ∷ []) w f ss (truth (compared p wi (low_bits wi w.rax) (low_bits wi w.rcx)))
  wide_makes wi wide =
      let signed = is_signed p in
      let x = fill_of signed wi w.rax in
      let y = fill_of signed wi w.rcx in
      let w1 : Words = record w { rax = x } in
      let w2 : Words = record w1 { rcx = y } in
      let one = fill_passes w f ss signed wi Rax in
      let two = fill_passes w1 one.flags ss signed wi Rcx in
      let hx = fill_small signed wi w.rax in
      let hy = fill_small signed wi w.rcx in
      let ex : x % 2 ^ 64 ≡ x = omega (arith, hx) in
      let ey : y % 2 ^ 64 ≡ y = omega (arith, hy) in
      let tail : List Instr = Alu AluOp.Cmp Wide.W64 Rax Rcx ∷ SetCond (condition p) Rax ∷ Widen WidenKind.Zero8 Rax Rax ∷ [] in
      let b = compared p wi (low_bits wi w.rax) (low_bits wi w.rcx) in
      let says = ap (λ n. holds (condition p) (compare_flags n (y % 2 ^ 64))) ex ∙ ap (λ n. holds (condition p) (compare_flags x n)) ey ∙ condition_says p x y hx hy ∙ ap Some (filled_compared wi w.rax w.rcx wide p) in
      makes_after (filled signed wi Rax) (filled signed wi Rcx ∷ tail) w f ss w1 (truth b) one (scratch_same w x w.rcx w.rdx)
      (makes_after (filled signed wi Rcx) tail w1 one.flags ss w2 (truth b) two (scratch_same w1 x y w.rdx) (answer_makes w2 two.flags ss (condition p) b says))

  bit_makes : Makes (test_row p W1) w f ss (truth (compared p W1 (low_bits W1 w.rax) (low_bits W1 w.rcx)))
  bit_makes =
      let w1 : Words = record w { rdx = 1 } in
      let x = bit_and (w.rax % 2 ^ 32) 1 in
      let y = bit_and (w.rcx % 2 ^ 32) 1 in
      let w2 : Words = record w1 { rax = x } in
      let w3 : Words = record w2 { rcx = y } in
      let one = first_bit w1 f ss in
      let two = second_bit w2 one.flags ss in
      let tail : List Instr = Alu AluOp.Cmp Wide.W64 Rax Rcx ∷ SetCond (bit_condition p) Rax ∷ Widen WidenKind.Zero8 Rax Rax ∷ [] in
      let b = compared p W1 (low_bits W1 w.rax) (low_bits W1 w.rcx) in
      let ex : x % 2 ^ 64 ≡ w.rax % 2 = ap (λ n. n % 2 ^ 64) (one_bit w.rax) ∙ omega arith in
      let ey : y % 2 ^ 64 ≡ w.rcx % 2 = ap (λ n. n % 2 ^ 64) (one_bit w.rcx) ∙ omega arith in
      let says = ap (λ n. holds (bit_condition p) (compare_flags n (y % 2 ^ 64))) ex ∙ ap (λ n. holds (bit_condition p) (compare_flags (w.rax % 2) n)) ey ∙ bit_condition_says p (w.rax % 2) (w.rcx % 2) (omega arith) (omega arith) in
      makes_after (MovImm32 Rdx 1) (Alu AluOp.And Wide.W32 Rax Rdx ∷ Alu AluOp.And Wide.W32 Rcx Rdx ∷ tail) w f ss w1 (truth b) (record { flags = f; runs = one_runs w f ss }) (scratch_same w w.rax w.rcx 1)
      (makes_after (Alu AluOp.And Wide.W32 Rax Rdx) (Alu AluOp.And Wide.W32 Rcx Rdx ∷ tail) w1 f ss w2 (truth b) one (scratch_same w1 x w.rcx 1)
      (makes_after (Alu AluOp.And Wide.W32 Rcx Rdx) tail w2 one.flags ss w3 (truth b) two (scratch_same w2 x y 1) (answer_makes w3 two.flags ss (bit_condition p) b says)))

-- a comparison of the low bits of rax and rcx
pub test_makes : (w : Words) (f : Flags) (ss : List Segment) (p : Pred) (wi : Width) → Makes (test_row p wi) w f ss (truth (compared p wi (low_bits wi w.rax) (low_bits wi w.rcx)))
test_makes w f ss p W1 = bit_makes w f ss p
test_makes w f ss p W8 = wide_makes w f ss p W8 tt
test_makes w f ss p W16 = wide_makes w f ss p W16 tt
test_makes w f ss p W32 = wide_makes w f ss p W32 tt
test_makes w f ss p W64 = wide_makes w f ss p W64 tt

-- rcx where the low bit of rdx is 0, and else rax
pub pick_makes : (w : Words) (f : Flags) (ss : List Segment) → Makes (AluImm ImmOp.And Wide.W32 Rdx (pos 1) ∷ Cmov Cond.E Rax Rcx ∷ []) w f ss (if nat_eq (w.rdx % 2) 0 then w.rcx else w.rax)
pick_makes w f ss =
    let f2 = bit_flags w f ss in
    let w2 : Words = record w { rdx = bit_and (w.rdx % 2 ^ 32) 1 } in
    let b = nat_eq (w.rdx % 2) 0 in
    let says = flag_known (nat_eq (bit_and (w.rdx % 2 ^ 32) 1) 0) ∙ ap (λ n. Some (nat_eq n 0)) (one_bit w.rdx) in
    makes_after (AluImm ImmOp.And Wide.W32 Rdx (pos 1)) (Cmov Cond.E Rax Rcx ∷ []) w f ss w2 (if b then w.rcx else w.rax) (record { flags = f2; runs = bit_runs w f ss }) (scratch_same w w.rax w.rcx w2.rdx)
    (makes_one (Cmov Cond.E Rax Rcx) w2 f2 ss (record w2 { rax = if b then w.rcx else w.rax }) (record { flags = f2; runs = move_runs w2 f2 ss Cond.E b says }) (scratch_same w2 _ w.rcx w2.rdx))
