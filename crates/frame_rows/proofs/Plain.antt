-- Constants, copies, places and operations on two words.
use Rattle.std.proofs.Common.{◌≡◌, ℕ, ◌+◌, ◌%◌, ◌^◌, ◌<◌, List, [], ◌∷◌, refl, ◌∙◌, ap, arith}
use Rattle.std.specs.Prelude.{pos}
use Rattle.rd_num.specs.declared.width.Width.{Width}
use Rattle.rd_num.specs.declared.width.Width.TheVariants.{W1, W8, W16, W32, W64}
use Rattle.rd_num.specs.Number.{bits}
use Rattle.ir_core.specs.Arithmetic.{modulus}
use Rattle.x86_core.specs.declared.flags.Flags.{Flags}
use Rattle.x86_core.specs.declared.reg.Reg.TheVariants.{Rax, Rcx, Rsp}
use Rattle.x86_core.specs.declared.image.Segment.{Segment}
use Rattle.x86_core.specs.declared.instr.Wide.{Wide}
use Rattle.x86_core.specs.declared.instr.AluOp.{AluOp}
use Rattle.x86_core.specs.declared.instr.ShiftOp.{ShiftOp}
use Rattle.x86_core.specs.declared.instr.Instr.{Instr}
use Rattle.x86_core.specs.declared.instr.Instr.TheVariants.{MovImm64, Alu, Shift, Lea}
use Rattle.x86_core.specs.Arithmetic.{shifted, moved}
use Rattle.x86_rows.proofs.Rows.{exec-first}
use Rattle.low_core.specs.declared.sel.SelAlu.{SelAlu}
use Rattle.low_core.specs.declared.sel.SelAlu.TheVariants.{Add, Sub, Mul, And, Or, Xor, Shl, Shr, Sar}
use Rattle.low_core.specs.SelStep.{low_bits}
use Rattle.frame_rows.specs.Words.{Words, core_of}
use Rattle.frame_rows.specs.Code.{cut, sign_filled, wide_of, multiply, amount, alu_row}
use Rattle.frame_rows.proofs.Registers.{Same}
use Rattle.frame_rows.proofs.Results.{Makes}
use Rattle.frame_rows.proofs.Leaves.{Passes, sign_of, alu_passes, imul_passes, shift_passes, constant_passes, place_passes, cut_passes, sign_passes, amount_passes}
use Rattle.frame_rows.proofs.Numbers.{alu_word, sum_cut, difference_cut, and_cut, or_cut, xor_cut, product_cut, bits_product, amount_is, left_cut, right_of, sign_cut, amount_small}

-- a row of one instruction, and one more instruction in front of a row
pub makes_one : (i : Instr) (w : Words) (f : Flags) (ss : List Segment) (after : Words) → Passes i w f ss after → Same w after → Makes (i ∷ []) w f ss after.rax
makes_one i w f ss after p same = record { after = after; flags = p.flags; runs = exec-first i [] (core_of w f ss) (core_of after p.flags ss) p.runs; made = refl; same = same }

pub makes_after : (i : Instr) (row : List Instr) (w : Words) (f : Flags) (ss : List Segment) (next : Words) (n : ℕ) → (p : Passes i w f ss next) → Same w next → Makes row next p.flags ss n → Makes (i ∷ row) w f ss n
makes_after i row w f ss next n p same m = record {
  after = m.after;
  flags = m.flags;
  runs = exec-first i row (core_of w f ss) (core_of next p.flags ss) p.runs ∙ m.runs;
  made = m.made;
  same = record {
    rbx = m.same.rbx ∙ same.rbx;
    rbp = m.same.rbp ∙ same.rbp;
    rsp = m.same.rsp ∙ same.rsp;
    r12 = m.same.r12 ∙ same.r12;
    r13 = m.same.r13 ∙ same.r13;
    r14 = m.same.r14 ∙ same.r14;
    r15 = m.same.r15 ∙ same.r15;
  };
}

-- the number under another name
pub makes_is : (row : List Instr) (w : Words) (f : Flags) (ss : List Segment) (n m : ℕ) → n ≡ m → Makes row w f ss n → Makes row w f ss m
makes_is row w f ss n m e x = record { after = x.after; flags = x.flags; runs = x.runs; made = x.made ∙ e; same = x.same }

-- words that differ in scratch registers alone
pub scratch_same : (w : Words) (a c d : ℕ) → Same w (record w { rax = a; rcx = c; rdx = d })
scratch_same w a c d = record { rbx = refl; rbp = refl; rsp = refl; r12 = refl; r13 = refl; r14 = refl; r15 = refl }

module _ (w : Words) (f : Flags) (ss : List Segment) where
  pub set_makes : (n : ℕ) → Makes (MovImm64 Rax n ∷ []) w f ss n
  set_makes n = makes_one (MovImm64 Rax n) w f ss (record w { rax = n }) (constant_passes w f ss n) (scratch_same w n w.rcx w.rdx)

  pub place_makes : (d base : ℕ) → w.rsp ≡ base → base + d < 2 ^ 64 → Makes (Lea Rax (record { base = Rsp; disp = pos d }) ∷ []) w f ss (base + d)
  place_makes d base at small =
      makes_is (Lea Rax (record { base = Rsp; disp = pos d }) ∷ []) w f ss (moved w.rsp (pos d)) (base + d) (omega (arith, at, small))
      (makes_one (Lea Rax (record { base = Rsp; disp = pos d })) w f ss (record w { rax = moved w.rsp (pos d) }) (place_passes w f ss d) (scratch_same w _ w.rcx w.rdx))

  -- an instruction on rax and rcx, and what is left of its result after a cut
  cut_makes : (wi : Width) (i : Instr) (n : ℕ) → Passes i w f ss (record w { rax = n }) → Makes (i ∷ cut wi Rax ∷ []) w f ss (n % modulus wi)
  cut_makes wi i n p =
      let w1 : Words = record w { rax = n } in
      makes_after i (cut wi Rax ∷ []) w f ss w1 (n % modulus wi) p (scratch_same w n w.rcx w.rdx)
      (makes_one (cut wi Rax) w1 p.flags ss (record w { rax = n % modulus wi }) (cut_passes w1 p.flags ss wi Rax) (scratch_same w1 (n % modulus wi) w.rcx w.rdx))

  multiply_makes : (wi : Width) → Makes (multiply wi ∷ cut wi Rax ∷ []) w f ss (alu_word Mul wi (low_bits wi w.rax) (low_bits wi w.rcx))
  multiply_makes W1 = makes_is (multiply W1 ∷ cut W1 Rax ∷ []) w f ss _ _ (bits_product w.rax w.rcx) (cut_makes W1 (multiply W1) _ (alu_passes w f ss AluOp.And Wide.W32 refl))
  multiply_makes W8 = makes_is (multiply W8 ∷ cut W8 Rax ∷ []) w f ss _ _ (product_cut W8 w.rax w.rcx) (cut_makes W8 (multiply W8) _ (imul_passes w f ss Wide.W32))
  multiply_makes W16 = makes_is (multiply W16 ∷ cut W16 Rax ∷ []) w f ss _ _ (product_cut W16 w.rax w.rcx) (cut_makes W16 (multiply W16) _ (imul_passes w f ss Wide.W32))
  multiply_makes W32 = makes_is (multiply W32 ∷ cut W32 Rax ∷ []) w f ss _ _ (product_cut W32 w.rax w.rcx) (cut_makes W32 (multiply W32) _ (imul_passes w f ss Wide.W32))
  multiply_makes W64 = makes_is (multiply W64 ∷ cut W64 Rax ∷ []) w f ss _ _ (product_cut W64 w.rax w.rcx) (cut_makes W64 (multiply W64) _ (imul_passes w f ss Wide.W64))

  -- the amount of a shift comes first
  amount_first : (wi : Width) (row : List Instr) (n : ℕ) → ((g : Flags) → Makes row (record w { rcx = w.rcx % bits wi }) g ss n) → Makes (amount wi ∷ row) w f ss n
  amount_first wi row n made =
      let p = amount_passes w f ss wi in
      makes_after (amount wi) row w f ss (record w { rcx = w.rcx % bits wi }) n p (scratch_same w w.rax (w.rcx % bits wi) w.rdx) (made p.flags)

module _ (w : Words) (ss : List Segment) (wi : Width) where
  -- the words once the amount is there
  abbrev ready : Words
  ready = record w { rcx = w.rcx % bits wi }

  abbrev by : ℕ
  by = low_bits wi w.rcx % bits wi

  left_makes : (f : Flags) → Makes (Shift ShiftOp.Shl Wide.W64 Rax ∷ cut wi Rax ∷ []) ready f ss (alu_word Shl wi (low_bits wi w.rax) (low_bits wi w.rcx))
  left_makes f =
      let row = Shift ShiftOp.Shl Wide.W64 Rax ∷ cut wi Rax ∷ [] in
      let e = ap (λ k. shifted ShiftOp.Shl 64 (w.rax % 2 ^ 64) k % modulus wi) (amount_is wi w.rcx) in
      makes_is row ready f ss _ _ (e ∙ left_cut wi w.rax by) (cut_makes ready f ss wi (Shift ShiftOp.Shl Wide.W64 Rax) _ (shift_passes ready f ss ShiftOp.Shl Wide.W64))

  right_makes : (f : Flags) → Makes (cut wi Rax ∷ Shift ShiftOp.Shr Wide.W64 Rax ∷ []) ready f ss (alu_word Shr wi (low_bits wi w.rax) (low_bits wi w.rcx))
  right_makes f =
      let row = cut wi Rax ∷ Shift ShiftOp.Shr Wide.W64 Rax ∷ [] in
      let n = w.rax % modulus wi in
      let w1 : Words = record ready { rax = n } in
      let p = cut_passes ready f ss wi Rax in
      let e = ap (λ k. shifted ShiftOp.Shr 64 (n % 2 ^ 64) k) (amount_is wi w.rcx) in
      makes_is row ready f ss _ _ (e ∙ right_of wi w.rax by)
      (makes_after (cut wi Rax) (Shift ShiftOp.Shr Wide.W64 Rax ∷ []) ready f ss w1 _ p (scratch_same ready n ready.rcx w.rdx)
      (makes_one (Shift ShiftOp.Shr Wide.W64 Rax) w1 p.flags ss _ (shift_passes w1 p.flags ss ShiftOp.Shr Wide.W64) (scratch_same w1 _ ready.rcx w.rdx)))

  sign_makes : (f : Flags) → Makes (sign_filled wi Rax ∷ Shift ShiftOp.Sar Wide.W64 Rax ∷ cut wi Rax ∷ []) ready f ss (alu_word Sar wi (low_bits wi w.rax) (low_bits wi w.rcx))
  sign_makes f =
      let row = sign_filled wi Rax ∷ Shift ShiftOp.Sar Wide.W64 Rax ∷ cut wi Rax ∷ [] in
      let n = sign_of wi w.rax in
      let w1 : Words = record ready { rax = n } in
      let p = sign_passes ready f ss wi Rax in
      let e = ap (λ k. shifted ShiftOp.Sar 64 (n % 2 ^ 64) k % modulus wi) (amount_is wi w.rcx) in
      makes_is row ready f ss _ _ (e ∙ sign_cut wi w.rax by (amount_small wi (low_bits wi w.rcx)))
      (makes_after (sign_filled wi Rax) (Shift ShiftOp.Sar Wide.W64 Rax ∷ cut wi Rax ∷ []) ready f ss w1 _ p (scratch_same ready n ready.rcx w.rdx)
      (cut_makes w1 p.flags ss wi (Shift ShiftOp.Sar Wide.W64 Rax) _ (shift_passes w1 p.flags ss ShiftOp.Sar Wide.W64)))

-- an operation on the low bits of rax and rcx
pub alu_makes : (w : Words) (f : Flags) (ss : List Segment) (o : SelAlu) (wi : Width) → Makes (alu_row o wi) w f ss (alu_word o wi (low_bits wi w.rax) (low_bits wi w.rcx))
alu_makes w f ss Add wi = makes_is (alu_row Add wi) w f ss _ _ (sum_cut wi w.rax w.rcx) (cut_makes w f ss wi (Alu AluOp.Add (wide_of wi) Rax Rcx) _ (alu_passes w f ss AluOp.Add (wide_of wi) refl))
alu_makes w f ss Sub wi = makes_is (alu_row Sub wi) w f ss _ _ (difference_cut wi w.rax w.rcx) (cut_makes w f ss wi (Alu AluOp.Sub (wide_of wi) Rax Rcx) _ (alu_passes w f ss AluOp.Sub (wide_of wi) refl))
alu_makes w f ss Mul wi = multiply_makes w f ss wi
alu_makes w f ss And wi = makes_is (alu_row And wi) w f ss _ _ (and_cut wi w.rax w.rcx) (cut_makes w f ss wi (Alu AluOp.And (wide_of wi) Rax Rcx) _ (alu_passes w f ss AluOp.And (wide_of wi) refl))
alu_makes w f ss Or wi = makes_is (alu_row Or wi) w f ss _ _ (or_cut wi w.rax w.rcx) (cut_makes w f ss wi (Alu AluOp.Or (wide_of wi) Rax Rcx) _ (alu_passes w f ss AluOp.Or (wide_of wi) refl))
alu_makes w f ss Xor wi = makes_is (alu_row Xor wi) w f ss _ _ (xor_cut wi w.rax w.rcx) (cut_makes w f ss wi (Alu AluOp.Xor (wide_of wi) Rax Rcx) _ (alu_passes w f ss AluOp.Xor (wide_of wi) refl))
alu_makes w f ss Shl wi = amount_first w f ss wi (Shift ShiftOp.Shl Wide.W64 Rax ∷ cut wi Rax ∷ []) _ (left_makes w ss wi)
alu_makes w f ss Shr wi = amount_first w f ss wi (cut wi Rax ∷ Shift ShiftOp.Shr Wide.W64 Rax ∷ []) _ (right_makes w ss wi)
alu_makes w f ss Sar wi = amount_first w f ss wi (sign_filled wi Rax ∷ Shift ShiftOp.Sar Wide.W64 Rax ∷ cut wi Rax ∷ []) _ (sign_makes w ss wi)
