-- Extensions from one width to another.
use Rattle.std.proofs.Common.{◌≡◌, ℕ, ◌+◌, ◌-◌, ◌*◌, ◌%◌, ◌^◌, ◌<◌, ◌≤◌, Bool, true, false, if◌then◌else◌, List, [], ◌∷◌, refl, sym, ◌∙◌, ap, inl, inr, arith}
use Rattle.std.proofs.lemmas.Bool.{cases_lt, lt-leb, le-leb}
use Rattle.std.proofs.Math.Nat.{mod-lt}
use Rattle.rd_num.specs.declared.width.Width.{Width}
use Rattle.rd_num.specs.declared.width.Width.TheVariants.{W1, W8, W16, W32, W64}
use Rattle.ir_core.specs.Arithmetic.{modulus, is_negative, cast}
use Rattle.ir_core.specs.declared.instruction.CastOp.TheVariants.{Sext}
use Rattle.x86_core.specs.declared.flags.Flags.{Flags}
use Rattle.x86_core.specs.declared.reg.Reg.TheVariants.{Rax, Rcx}
use Rattle.x86_core.specs.declared.image.Segment.{Segment}
use Rattle.x86_core.specs.declared.instr.Wide.{Wide}
use Rattle.x86_core.specs.declared.instr.AluOp.{AluOp}
use Rattle.x86_core.specs.declared.instr.Instr.TheVariants.{Alu}
use Rattle.low_core.specs.SelShaped.{IsWide}
use Rattle.low_core.specs.SelStep.{low_bits, widening}
use Rattle.frame_rows.specs.Words.{Words}
use Rattle.frame_rows.specs.Code.{cut, filled}
use Rattle.frame_rows.proofs.Results.{Makes}
use Rattle.frame_rows.proofs.Leaves.{sign_of, fill_of, cut_passes, fill_passes, alu_passes}
use Rattle.frame_rows.proofs.Numbers.{half, sign_low, sign_high, modulus_some}
use Rattle.frame_rows.proofs.Plain.{makes_one, makes_after, makes_is, scratch_same}
use Rattle.frame_rows.proofs.Choices.{zero_passes}

-- a negative number with copies of its sign, cut to another width
high_cut : (from to : Width) (n : ℕ) → n < modulus from → (n + (2 ^ 64 - modulus from)) % modulus to ≡ (n + (modulus to - modulus from)) % modulus to
high_cut W1 W1 n lt = omega (arith, lt)
high_cut W1 W8 n lt = omega (arith, lt)
high_cut W1 W16 n lt = omega (arith, lt)
high_cut W1 W32 n lt = omega (arith, lt)
high_cut W1 W64 n lt = omega (arith, lt)
high_cut W8 W1 n lt = omega (arith, lt)
high_cut W8 W8 n lt = omega (arith, lt)
high_cut W8 W16 n lt = omega (arith, lt)
high_cut W8 W32 n lt = omega (arith, lt)
high_cut W8 W64 n lt = omega (arith, lt)
high_cut W16 W1 n lt = omega (arith, lt)
high_cut W16 W8 n lt = omega (arith, lt)
high_cut W16 W16 n lt = omega (arith, lt)
high_cut W16 W32 n lt = omega (arith, lt)
high_cut W16 W64 n lt = omega (arith, lt)
high_cut W32 W1 n lt = omega (arith, lt)
high_cut W32 W8 n lt = omega (arith, lt)
high_cut W32 W16 n lt = omega (arith, lt)
high_cut W32 W32 n lt = omega (arith, lt)
high_cut W32 W64 n lt = omega (arith, lt)
high_cut W64 W1 n lt = omega (arith, lt)
high_cut W64 W8 n lt = omega (arith, lt)
high_cut W64 W16 n lt = omega (arith, lt)
high_cut W64 W32 n lt = omega (arith, lt)
high_cut W64 W64 n lt = omega (arith, lt)

-- a choice by the sign
non_negative : (w : Width) (n x y : ℕ) → n < half w → (if is_negative w n then x else y) ≡ y
non_negative w n x y lt = ap (λ b. if b then x else y) (lt-leb (half w) n lt)

negative : (w : Width) (n x y : ℕ) → half w ≤ n → (if is_negative w n then x else y) ≡ x
negative w n x y le = ap (λ b. if b then x else y) (le-leb (half w) n le)

sign_cast : (from to : Width) (a : ℕ) → IsWide from → sign_of from a % modulus to ≡ cast Sext from to (low_bits from a)
sign_cast from to a wide = elim (cases_lt (a % modulus from) (half from)) [
  | inl lt ↦ ap (λ n. n % modulus to) (sign_low from a wide lt) ∙ sym (ap (λ n. n % modulus to) (non_negative from (a % modulus from) (a % modulus from + (modulus to - modulus from)) (a % modulus from) lt))
  | inr le ↦ ap (λ n. n % modulus to) (sign_high from a wide le) ∙ high_cut from to (a % modulus from) (mod-lt a (modulus_some from)) ∙
      sym (ap (λ n. n % modulus to) (negative from (a % modulus from) (a % modulus from + (modulus to - modulus from)) (a % modulus from) le))
]

pub fill_cast : (signed : Bool) (from to : Width) (a : ℕ) → IsWide from → fill_of signed from a % modulus to ≡ cast (widening signed) from to (low_bits from a)
fill_cast true from to a wide = sign_cast from to a wide
fill_cast false from to a wide = refl

-- a single bit taken from nothing
bit_taken : (to : Width) (x a : ℕ) → (((x % 2 ^ 32 + 2 ^ 32 - x % 2 ^ 32) % 2 ^ 32 % 2 ^ 64 + 2 ^ 64 - a % 2 % 2 ^ 64) % 2 ^ 64) % modulus to ≡ (a % 2 + (a % 2) * (modulus to - 2)) % modulus to
bit_taken W1 x a = omega arith
bit_taken W8 x a = omega arith
bit_taken W16 x a = omega arith
bit_taken W32 x a = omega arith
bit_taken W64 x a = omega arith

bit_cast : (to : Width) (a : ℕ) → (a % 2 + (a % 2) * (modulus to - 2)) % modulus to ≡ cast Sext W1 to (low_bits W1 a)
bit_cast to a = elim (cases_lt (a % 2) 1) [
  | inl lt ↦
      let e : a % 2 ≡ 0 = omega (arith, lt) in
      let z : a % 2 * (modulus to - 2) ≡ 0 = ap (λ n. n * (modulus to - 2)) e ∙ omega arith in
      ap (λ n. (a % 2 + n) % modulus to) z ∙ ap (λ n. n % modulus to) (omega arith ∙ sym (non_negative W1 (a % 2) (a % 2 + (modulus to - modulus W1)) (a % 2) lt))
  | inr le ↦
      let e : a % 2 ≡ 1 = omega (arith, le) in
      let z : a % 2 * (modulus to - 2) ≡ modulus to - 2 = ap (λ n. n * (modulus to - 2)) e ∙ omega arith in
      ap (λ n. (a % 2 + n) % modulus to) z ∙ sym (ap (λ n. n % modulus to) (negative W1 (a % 2) (a % 2 + (modulus to - modulus W1)) (a % 2) le))
]

module _ (w : Words) (f : Flags) (ss : List Segment) where
  -- rax, filled from one width and cut to another
  pub fill_makes : (signed : Bool) (from to : Width) → IsWide from → Makes (filled signed from Rax ∷ cut to Rax ∷ []) w f ss (cast (widening signed) from to (low_bits from w.rax))
  fill_makes signed from to wide =
      let n = fill_of signed from w.rax in
      let w1 : Words = record w { rax = n } in
      let p = fill_passes w f ss signed from Rax in
      makes_is (filled signed from Rax ∷ cut to Rax ∷ []) w f ss (n % modulus to) _ (fill_cast signed from to w.rax wide)
      (makes_after (filled signed from Rax) (cut to Rax ∷ []) w f ss w1 _ p (scratch_same w n w.rcx w.rdx)
      (makes_one (cut to Rax) w1 p.flags ss (record w { rax = n % modulus to }) (cut_passes w1 p.flags ss to Rax) (scratch_same w1 _ w.rcx w.rdx)))

  -- a bit in rax, with zeros above it
  pub bit_fill_makes : (to : Width) → Makes (filled false W1 Rax ∷ cut to Rax ∷ []) w f ss (low_bits W1 w.rax % modulus to)
  bit_fill_makes to =
      let n = w.rax % modulus W1 in
      let w1 : Words = record w { rax = n } in
      let p = cut_passes w f ss W1 Rax in
      makes_after (cut W1 Rax) (cut to Rax ∷ []) w f ss w1 _ p (scratch_same w n w.rcx w.rdx)
      (makes_one (cut to Rax) w1 p.flags ss (record w { rax = n % modulus to }) (cut_passes w1 p.flags ss to Rax) (scratch_same w1 _ w.rcx w.rdx))

  -- a bit in rcx, its sign in all of rax
  pub bit_sign_makes : (to : Width) → Makes (cut W1 Rcx ∷ Alu AluOp.Sub Wide.W32 Rax Rax ∷ Alu AluOp.Sub Wide.W64 Rax Rcx ∷ cut to Rax ∷ []) w f ss (cast Sext W1 to (low_bits W1 w.rcx))
  bit_sign_makes to =
      let w1 : Words = record w { rcx = w.rcx % 2 } in
      let p = cut_passes w f ss W1 Rcx in
      let none = (w.rax % 2 ^ 32 + 2 ^ 32 - w.rax % 2 ^ 32) % 2 ^ 32 in
      let w2 : Words = record w1 { rax = none } in
      let q = zero_passes w1 p.flags ss in
      let n = (none % 2 ^ 64 + 2 ^ 64 - w.rcx % 2 % 2 ^ 64) % 2 ^ 64 in
      let w3 : Words = record w2 { rax = n } in
      let r = alu_passes w2 q.flags ss AluOp.Sub Wide.W64 refl in
      makes_is _ w f ss (n % modulus to) _ (bit_taken to w.rax w.rcx ∙ bit_cast to w.rcx)
      (makes_after (cut W1 Rcx) (Alu AluOp.Sub Wide.W32 Rax Rax ∷ Alu AluOp.Sub Wide.W64 Rax Rcx ∷ cut to Rax ∷ []) w f ss w1 _ p (scratch_same w w.rax w1.rcx w.rdx)
      (makes_after (Alu AluOp.Sub Wide.W32 Rax Rax) (Alu AluOp.Sub Wide.W64 Rax Rcx ∷ cut to Rax ∷ []) w1 p.flags ss w2 _ q (scratch_same w1 none w1.rcx w.rdx)
      (makes_after (Alu AluOp.Sub Wide.W64 Rax Rcx) (cut to Rax ∷ []) w2 q.flags ss w3 _ r (scratch_same w2 n w1.rcx w.rdx)
      (makes_one (cut to Rax) w3 r.flags ss (record w3 { rax = n % modulus to }) (cut_passes w3 r.flags ss to Rax) (scratch_same w3 _ w1.rcx w.rdx)))))
