-- What divisions make in rax, or that they stop.
use Rattle.std.proofs.Common.{◌≡◌, ℕ, ◌+◌, ◌-◌, ◌*◌, ◌/◌, ◌%◌, ◌^◌, ◌<◌, ◌≤◌, Bool, true, false, nat_le, if◌then◌else◌, List, [], ◌∷◌, Some, None, Ok, Err, refl, sym, ◌∙◌, ap, subst, inl, inr, arith}
use Rattle.std.proofs.lemmas.Bool.{cases_lt, lt-leb, le-leb}
use Rattle.std.proofs.Math.Nat.{mod-lt}
use Rattle.behavior.specs.Ending as ending
use Rattle.rd_num.specs.declared.width.Width.{Width}
use Rattle.rd_num.specs.declared.width.Width.TheVariants.{W1, W8, W16, W32, W64}
use Rattle.rd_num.specs.Number.{bits}
use Rattle.ir_core.specs.Arithmetic.{modulus, binary}
use Rattle.ir_core.specs.Stops.{Divide, Answer}
use Rattle.x86_core.specs.declared.flags.Flags.{Flags}
use Rattle.x86_core.specs.declared.reg.Reg.TheVariants.{Rax, Rcx, Rdx}
use Rattle.x86_core.specs.declared.image.Segment.{Segment}
use Rattle.x86_core.specs.declared.divide.Division.{Division}
use Rattle.x86_core.specs.declared.instr.Wide.{Wide}
use Rattle.x86_core.specs.declared.instr.Size.{Size}
use Rattle.x86_core.specs.declared.instr.HighSize.{HighSize}
use Rattle.x86_core.specs.declared.instr.ShiftOp.{ShiftOp}
use Rattle.x86_core.specs.declared.instr.Instr.{Instr}
use Rattle.x86_core.specs.declared.instr.Instr.TheVariants.{Mov, MovImm32, Shift, Div, High}
use Rattle.x86_core.specs.Arithmetic.{size_bits, is_negative, magnitude, sign_fill, kept, unknown_flags}
use Rattle.x86_core.specs.Arithmetic as x86
use Rattle.x86_core.specs.Effect.{effect_of, dividend, with_division, divided}
use Rattle.x86_rows.specs.Straight.{Through, Stopped, by_change, ran, and_on, exec}
use Rattle.x86_rows.proofs.Rows.{exec-first}
use Rattle.low_core.specs.SelShaped.{IsWide}
use Rattle.low_core.specs.SelStep.{low_bits, division}
use Rattle.frame_rows.specs.Words.{Words, in_order, core_of}
use Rattle.frame_rows.specs.Code.{cut, filled, div_row}
use Rattle.frame_rows.proofs.Registers.{Same}
use Rattle.frame_rows.proofs.Results.{Makes}
use Rattle.frame_rows.proofs.Leaves.{Passes, sign_of, fill_of, cut_passes, fill_passes, shift_passes}
use Rattle.frame_rows.proofs.Numbers.{modulus_some, modulus_most, sign_low, sign_high}
use Rattle.frame_rows.proofs.Plain.{makes_one, makes_after, makes_is, scratch_same}
use Rattle.frame_rows.proofs.Division.{part, Agrees, NoAnswer, SameAnswer, unsigned_agrees, IsDouble, signed_agrees}

-- a row makes the answer in rax, or both stop at a division
pub data Answers (row : List Instr) (w : Words) (f : Flags) (ss : List Segment) (answer : Answer ℕ) : Type 0 where
  Stops : answer ≡ Err Divide → exec row (core_of w f ss) ≡ Stopped ending.Divide → Answers row w f ss answer
  Gives : (n : ℕ) → answer ≡ Ok n → n < 2 ^ 64 → Makes row w f ss n → Answers row w f ss answer

-- one more instruction in front
answers_after : (i : Instr) (row : List Instr) (w : Words) (f : Flags) (ss : List Segment) (next : Words) (answer : Answer ℕ) → (p : Passes i w f ss next) → Same w next → Answers row next p.flags ss answer → Answers (i ∷ row) w f ss answer
answers_after i row w f ss next answer p same (Stops e stops) = Stops e (exec-first i row (core_of w f ss) (core_of next p.flags ss) p.runs ∙ stops)
answers_after i row w f ss next answer p same (Gives n e small m) = Gives n e small (makes_after i row w f ss next n p same m)

-- a dividend of twice the width, below the half and from it on
double_low : (h2 m2 h m n a : ℕ) → n < h2 → a < h → n ≡ a → (nat_le h2 n ≡ nat_le h a) × ((if nat_le h2 n then m2 - n else n) ≡ (if nat_le h a then m - a else a))
double_low h2 m2 h m n a ln la e =
    let x = lt-leb h2 n ln in
    let y = lt-leb h a la in
    (x ∙ sym y, ap (λ b. if b then m2 - n else n) x ∙ e ∙ sym (ap (λ b. if b then m - a else a) y))

double_high : (h2 m2 h m n a : ℕ) → h2 ≤ n → h ≤ a → m2 - n ≡ m - a → (nat_le h2 n ≡ nat_le h a) × ((if nat_le h2 n then m2 - n else n) ≡ (if nat_le h a then m - a else a))
double_high h2 m2 h m n a ln la e =
    let x = le-leb h2 n ln in
    let y = le-leb h a la in
    (x ∙ sym y, ap (λ b. if b then m2 - n else n) x ∙ e ∙ sym (ap (λ b. if b then m - a else a) y))

is_double : (w : Width) (n a : ℕ) → (is_negative (2 * bits w) n ≡ is_negative (bits w) a) × (magnitude (2 * bits w) n ≡ magnitude (bits w) a) → IsDouble w n a
is_double w n a x = record { sign = x.0; size = x.1 }

-- the number whose bits are all those of the sign
fill_low : (n x : ℕ) → (b : Bool) → b ≡ false → (if b then n else x) ≡ x
fill_low n x true e = absurd (cc)
fill_low n x false e = refl

fill_high : (n x : ℕ) → (b : Bool) → b ≡ true → (if b then n else x) ≡ n
fill_high n x true e = refl
fill_high n x false e = absurd (cc)

-- ax, from a byte with its sign
byte_double : (a : ℕ) → IsDouble W8 (sign_of W8 a % 2 ^ 16) (a % 2 ^ 8)
byte_double a = is_double W8 (sign_of W8 a % 2 ^ 16) (a % 2 ^ 8) (elim (cases_lt (a % 2 ^ 8) (2 ^ 7)) [
  | inl lt ↦ let e = sign_low W8 a tt lt in double_low (2 ^ 15) (2 ^ 16) (2 ^ 7) (2 ^ 8) (sign_of W8 a % 2 ^ 16) (a % 2 ^ 8) (omega (arith, e, lt)) lt (omega (arith, e))
  | inr le ↦ let e = sign_high W8 a tt le in double_high (2 ^ 15) (2 ^ 16) (2 ^ 7) (2 ^ 8) (sign_of W8 a % 2 ^ 16) (a % 2 ^ 8) (omega (arith, e, le)) le (omega (arith, e, le))
])

-- the dividend of 32 bits that the sign of the lower half fills
double16 : (d a : ℕ) → IsDouble W16 ((d / 2 ^ 16 * 2 ^ 16 + sign_fill 16 a) % 2 ^ 16 * 2 ^ 16 + a % 2 ^ 16) (a % 2 ^ 16)
double16 d a = is_double W16 ((d / 2 ^ 16 * 2 ^ 16 + sign_fill 16 a) % 2 ^ 16 * 2 ^ 16 + a % 2 ^ 16) (a % 2 ^ 16) (elim (cases_lt (a % 2 ^ 16) (2 ^ 15)) [
  | inl lt ↦ let e : sign_fill 16 a ≡ 0 = fill_low (2 ^ 16 - 1) 0 (is_negative 16 (a % 2 ^ 16)) (lt-leb (2 ^ 15) (a % 2 ^ 16) lt) in
      double_low (2 ^ 31) (2 ^ 32) (2 ^ 15) (2 ^ 16) ((d / 2 ^ 16 * 2 ^ 16 + sign_fill 16 a) % 2 ^ 16 * 2 ^ 16 + a % 2 ^ 16) (a % 2 ^ 16) (omega (arith, e, lt)) lt (omega (arith, e))
  | inr le ↦ let e : sign_fill 16 a ≡ 2 ^ 16 - 1 = fill_high (2 ^ 16 - 1) 0 (is_negative 16 (a % 2 ^ 16)) (le-leb (2 ^ 15) (a % 2 ^ 16) le) in
      double_high (2 ^ 31) (2 ^ 32) (2 ^ 15) (2 ^ 16) ((d / 2 ^ 16 * 2 ^ 16 + sign_fill 16 a) % 2 ^ 16 * 2 ^ 16 + a % 2 ^ 16) (a % 2 ^ 16) (omega (arith, e, le)) le (omega (arith, e, le))
])

-- the dividend of 64 bits that the sign of the lower half fills
double32 : (a : ℕ) → IsDouble W32 ((sign_fill 32 a) % 2 ^ 32 * 2 ^ 32 + a % 2 ^ 32) (a % 2 ^ 32)
double32 a = is_double W32 ((sign_fill 32 a) % 2 ^ 32 * 2 ^ 32 + a % 2 ^ 32) (a % 2 ^ 32) (elim (cases_lt (a % 2 ^ 32) (2 ^ 31)) [
  | inl lt ↦ let e : sign_fill 32 a ≡ 0 = fill_low (2 ^ 32 - 1) 0 (is_negative 32 (a % 2 ^ 32)) (lt-leb (2 ^ 31) (a % 2 ^ 32) lt) in
      double_low (2 ^ 63) (2 ^ 64) (2 ^ 31) (2 ^ 32) ((sign_fill 32 a) % 2 ^ 32 * 2 ^ 32 + a % 2 ^ 32) (a % 2 ^ 32) (omega (arith, e, lt)) lt (omega (arith, e))
  | inr le ↦ let e : sign_fill 32 a ≡ 2 ^ 32 - 1 = fill_high (2 ^ 32 - 1) 0 (is_negative 32 (a % 2 ^ 32)) (le-leb (2 ^ 31) (a % 2 ^ 32) le) in
      double_high (2 ^ 63) (2 ^ 64) (2 ^ 31) (2 ^ 32) ((sign_fill 32 a) % 2 ^ 32 * 2 ^ 32 + a % 2 ^ 32) (a % 2 ^ 32) (omega (arith, e, le)) le (omega (arith, e, le))
])

-- the dividend of 128 bits that the sign of the lower half fills
double64 : (a : ℕ) → IsDouble W64 ((sign_fill 64 a) % 2 ^ 64 * 2 ^ 64 + a % 2 ^ 64) (a % 2 ^ 64)
double64 a = is_double W64 ((sign_fill 64 a) % 2 ^ 64 * 2 ^ 64 + a % 2 ^ 64) (a % 2 ^ 64) (elim (cases_lt (a % 2 ^ 64) (2 ^ 63)) [
  | inl lt ↦ let e : sign_fill 64 a ≡ 0 = fill_low (2 ^ 64 - 1) 0 (is_negative 64 (a % 2 ^ 64)) (lt-leb (2 ^ 63) (a % 2 ^ 64) lt) in
      double_low (2 ^ 127) (2 ^ 128) (2 ^ 63) (2 ^ 64) ((sign_fill 64 a) % 2 ^ 64 * 2 ^ 64 + a % 2 ^ 64) (a % 2 ^ 64) (omega (arith, e, lt)) lt (omega (arith, e))
  | inr le ↦ let e : sign_fill 64 a ≡ 2 ^ 64 - 1 = fill_high (2 ^ 64 - 1) 0 (is_negative 64 (a % 2 ^ 64)) (le-leb (2 ^ 63) (a % 2 ^ 64) le) in
      double_high (2 ^ 127) (2 ^ 128) (2 ^ 63) (2 ^ 64) ((sign_fill 64 a) % 2 ^ 64 * 2 ^ 64 + a % 2 ^ 64) (a % 2 ^ 64) (omega (arith, e, le)) le (omega (arith, e, le))
])

module _ (w : Words) (f : Flags) (ss : List Segment) where
  -- a division without an answer, and one with one
  div_stops : (signed : Bool) (size : Size) → x86.division signed (size_bits size) (dividend size (in_order w)) (w.rcx % 2 ^ size_bits size) ≡ None → ran (Div signed size Rcx) (core_of w f ss) ≡ Stopped ending.Divide
  unfolding effect_of
  div_stops signed size e = ap (λ o. by_change (divided size (in_order w) f o) ss) e

  div_passes : (signed : Bool) (size : Size) (d : Division) (after : Words) → x86.division signed (size_bits size) (dividend size (in_order w)) (w.rcx % 2 ^ size_bits size) ≡ Some d → with_division size (in_order w) d ≡ in_order after → Passes (Div signed size Rcx) w f ss after
  unfolding effect_of
  div_passes signed size d after e is = record { flags = unknown_flags; runs = ap (λ o. by_change (divided size (in_order w) f o) ss) e ∙ ap (λ l. Through (record { regs = l; flags = unknown_flags; segments = ss })) is }

  -- the division and what is done to its answer, where it is that of the language
  div_answers : (signed rest : Bool) (size : Size) (wi : Width) (row : List Instr) (after : Division → Words) (a : ℕ) → size_bits size ≡ bits wi → Agrees signed wi (dividend size (in_order w)) a (low_bits wi w.rcx) → ((d : Division) → with_division size (in_order w) d ≡ in_order (after d)) → ((d : Division) → Same w (after d)) →
      ((d : Division) → d.quotient < modulus wi → d.remainder < modulus wi → (g : Flags) → Makes row (after d) g ss (part rest d)) → Answers (Div signed size Rcx ∷ row) w f ss (binary (division signed rest) wi a (low_bits wi w.rcx))
  div_answers signed rest size wi row after a bits_same (NoAnswer e none) regs same makes =
      let z : x86.division signed (size_bits size) (dividend size (in_order w)) (w.rcx % 2 ^ size_bits size) ≡ None = ap (λ k. x86.division signed k (dividend size (in_order w)) (w.rcx % 2 ^ k)) bits_same ∙ e in
      Stops (none rest) (ap (λ r. and_on r (exec row)) (div_stops signed size z))
  div_answers signed rest size wi row after a bits_same (SameAnswer d e hq hr some) regs same makes =
      let z : x86.division signed (size_bits size) (dividend size (in_order w)) (w.rcx % 2 ^ size_bits size) ≡ Some d = ap (λ k. x86.division signed k (dividend size (in_order w)) (w.rcx % 2 ^ k)) bits_same ∙ e in
      let p = div_passes signed size d (after d) z (regs d) in
      Gives (part rest d) (some rest) (small rest) (makes_after (Div signed size Rcx) row w f ss (after d) (part rest d) p (same d) (makes d hq hr p.flags))
    where
      small : (rest : Bool) → part rest d < 2 ^ 64
      small true = let m = modulus_most wi in omega (arith, m, hr)
      small false = let m = modulus_most wi in omega (arith, m, hq)

  -- the quotient or the remainder into rax
  part_passes : (rest : Bool) → Passes (Mov Wide.W64 Rax (if rest then Rdx else Rax)) w f ss (record w { rax = (if rest then w.rdx else w.rax) % 2 ^ 64 })
  unfolding effect_of
  part_passes true = record { flags = f; runs = refl }
  part_passes false = record { flags = f; runs = refl }

  eight_passes : Passes (MovImm32 Rcx 8) w f ss (record w { rcx = 8 })
  unfolding effect_of
  eight_passes = record { flags = f; runs = refl }

  zero_high : Passes (MovImm32 Rdx 0) w f ss (record w { rdx = 0 })
  unfolding effect_of
  zero_high = record { flags = f; runs = refl }

  high16 : Passes (High HighSize.W16) w f ss (record w { rdx = w.rdx / 2 ^ 16 * 2 ^ 16 + sign_fill 16 w.rax })
  unfolding effect_of
  high16 = record { flags = f; runs = refl }

  high32 : Passes (High HighSize.W32) w f ss (record w { rdx = sign_fill 32 w.rax })
  unfolding effect_of
  high32 = record { flags = f; runs = refl }

  high64 : Passes (High HighSize.W64) w f ss (record w { rdx = sign_fill 64 w.rax })
  unfolding effect_of
  high64 = record { flags = f; runs = refl }

  -- from two halves to the answer
  part_makes : (rest : Bool) (wi : Width) (n : ℕ) → (if rest then w.rdx else w.rax) % 2 ^ 64 % modulus wi ≡ n → Makes (Mov Wide.W64 Rax (if rest then Rdx else Rax) ∷ cut wi Rax ∷ []) w f ss n
  part_makes rest wi n e =
      let k = (if rest then w.rdx else w.rax) % 2 ^ 64 in
      let w1 : Words = record w { rax = k } in
      let p = part_passes rest in
      makes_is (Mov Wide.W64 Rax (if rest then Rdx else Rax) ∷ cut wi Rax ∷ []) w f ss (k % modulus wi) n e
      (makes_after (Mov Wide.W64 Rax (if rest then Rdx else Rax)) (cut wi Rax ∷ []) w f ss w1 _ p (scratch_same w k w.rcx w.rdx)
      (makes_one (cut wi Rax) w1 p.flags ss (record w { rax = k % modulus wi }) (cut_passes w1 p.flags ss wi Rax) (scratch_same w1 _ w.rcx w.rdx)))

-- the words after a division
abbrev after_division : Size → Words → Division → Words
after_division Size.W8 w d = record w { rax = w.rax / 2 ^ 16 * 2 ^ 16 + (d.remainder * 2 ^ 8 + d.quotient) }
after_division Size.W16 w d = record w { rax = w.rax / 2 ^ 16 * 2 ^ 16 + d.quotient; rdx = w.rdx / 2 ^ 16 * 2 ^ 16 + d.remainder }
after_division Size.W32 w d = record w { rax = d.quotient; rdx = d.remainder }
after_division Size.W64 w d = record w { rax = d.quotient; rdx = d.remainder }

registers_after : (size : Size) (w : Words) (d : Division) → with_division size (in_order w) d ≡ in_order (after_division size w d)
registers_after Size.W8 w d = refl
registers_after Size.W16 w d = refl
registers_after Size.W32 w d = refl
registers_after Size.W64 w d = refl

same_after : (size : Size) (w : Words) (d : Division) → Same w (after_division size w d)
same_after Size.W8 w d = record { rbx = refl; rbp = refl; rsp = refl; r12 = refl; r13 = refl; r14 = refl; r15 = refl }
same_after Size.W16 w d = record { rbx = refl; rbp = refl; rsp = refl; r12 = refl; r13 = refl; r14 = refl; r15 = refl }
same_after Size.W32 w d = record { rbx = refl; rbp = refl; rsp = refl; r12 = refl; r13 = refl; r14 = refl; r15 = refl }
same_after Size.W64 w d = record { rbx = refl; rbp = refl; rsp = refl; r12 = refl; r13 = refl; r14 = refl; r15 = refl }

part_of16 : (rest : Bool) (w : Words) (d : Division) → d.quotient < 2 ^ 16 → d.remainder < 2 ^ 16 → (if rest then (after_division Size.W16 w d).rdx else (after_division Size.W16 w d).rax) % 2 ^ 64 % 2 ^ 16 ≡ part rest d
part_of16 true w d hq hr = omega (arith, hr)
part_of16 false w d hq hr = omega (arith, hq)

part_of32 : (rest : Bool) (w : Words) (d : Division) → d.quotient < 2 ^ 32 → d.remainder < 2 ^ 32 → (if rest then (after_division Size.W32 w d).rdx else (after_division Size.W32 w d).rax) % 2 ^ 64 % 2 ^ 32 ≡ part rest d
part_of32 true w d hq hr = omega (arith, hr)
part_of32 false w d hq hr = omega (arith, hq)

part_of64 : (rest : Bool) (w : Words) (d : Division) → d.quotient < 2 ^ 64 → d.remainder < 2 ^ 64 → (if rest then (after_division Size.W64 w d).rdx else (after_division Size.W64 w d).rax) % 2 ^ 64 % 2 ^ 64 ≡ part rest d
part_of64 true w d hq hr = omega (arith, hr)
part_of64 false w d hq hr = omega (arith, hq)

-- the row behind the upper half
module _ (w : Words) (f : Flags) (ss : List Segment) (signed rest : Bool) where
  halves16 : Agrees signed W16 (dividend Size.W16 (in_order w)) (low_bits W16 w.rax) (low_bits W16 w.rcx) →
      Answers (Div signed Size.W16 Rcx ∷ Mov Wide.W64 Rax (if rest then Rdx else Rax) ∷ cut W16 Rax ∷ []) w f ss (binary (division signed rest) W16 (low_bits W16 w.rax) (low_bits W16 w.rcx))
  halves16 agrees =
      div_answers w f ss signed rest Size.W16 W16 (Mov Wide.W64 Rax (if rest then Rdx else Rax) ∷ cut W16 Rax ∷ []) (after_division Size.W16 w) (low_bits W16 w.rax) refl agrees (registers_after Size.W16 w) (same_after Size.W16 w)
      (λ d hq hr g. part_makes (after_division Size.W16 w d) g ss rest W16 (part rest d) (part_of16 rest w d hq hr))

  halves32 : Agrees signed W32 (dividend Size.W32 (in_order w)) (low_bits W32 w.rax) (low_bits W32 w.rcx) →
      Answers (Div signed Size.W32 Rcx ∷ Mov Wide.W64 Rax (if rest then Rdx else Rax) ∷ cut W32 Rax ∷ []) w f ss (binary (division signed rest) W32 (low_bits W32 w.rax) (low_bits W32 w.rcx))
  halves32 agrees =
      div_answers w f ss signed rest Size.W32 W32 (Mov Wide.W64 Rax (if rest then Rdx else Rax) ∷ cut W32 Rax ∷ []) (after_division Size.W32 w) (low_bits W32 w.rax) refl agrees (registers_after Size.W32 w) (same_after Size.W32 w)
      (λ d hq hr g. part_makes (after_division Size.W32 w d) g ss rest W32 (part rest d) (part_of32 rest w d hq hr))

  halves64 : Agrees signed W64 (dividend Size.W64 (in_order w)) (low_bits W64 w.rax) (low_bits W64 w.rcx) →
      Answers (Div signed Size.W64 Rcx ∷ Mov Wide.W64 Rax (if rest then Rdx else Rax) ∷ cut W64 Rax ∷ []) w f ss (binary (division signed rest) W64 (low_bits W64 w.rax) (low_bits W64 w.rcx))
  halves64 agrees =
      div_answers w f ss signed rest Size.W64 W64 (Mov Wide.W64 Rax (if rest then Rdx else Rax) ∷ cut W64 Rax ∷ []) (after_division Size.W64 w) (low_bits W64 w.rax) refl agrees (registers_after Size.W64 w) (same_after Size.W64 w)
      (λ d hq hr g. part_makes (after_division Size.W64 w d) g ss rest W64 (part rest d) (part_of64 rest w d hq hr))

-- what follows a division of bytes
abbrev byte_tail : Bool → List Instr
byte_tail true = MovImm32 Rcx 8 ∷ Shift ShiftOp.Shr Wide.W32 Rax ∷ cut W8 Rax ∷ []
byte_tail false = cut W8 Rax ∷ []

-- the lowest byte of rax, or the next one
module _ (w : Words) (g : Flags) (ss : List Segment) (d : Division) (hq : d.quotient < 2 ^ 8) (hr : d.remainder < 2 ^ 8) where
  abbrev bytes : Words
  bytes = after_division Size.W8 w d

  low_byte : Makes (cut W8 Rax ∷ []) bytes g ss d.quotient
  low_byte =
      let e : bytes.rax % 2 ^ 8 ≡ d.quotient = omega (arith, hq) in
      makes_is (cut W8 Rax ∷ []) bytes g ss (bytes.rax % 2 ^ 8) d.quotient e
      (makes_one (cut W8 Rax) bytes g ss (record bytes { rax = bytes.rax % 2 ^ 8 }) (cut_passes bytes g ss W8 Rax) (scratch_same bytes _ w.rcx w.rdx))

  next_byte : Makes (MovImm32 Rcx 8 ∷ Shift ShiftOp.Shr Wide.W32 Rax ∷ cut W8 Rax ∷ []) bytes g ss d.remainder
  next_byte =
      let w1 : Words = record bytes { rcx = 8 } in
      let p = eight_passes bytes g ss in
      let k = bytes.rax % 2 ^ 32 / 2 ^ 8 in
      let w2 : Words = record w1 { rax = k } in
      let q = shift_passes w1 p.flags ss ShiftOp.Shr Wide.W32 in
      let e : k % 2 ^ 8 ≡ d.remainder = omega (arith, hq, hr) in
      makes_is _ bytes g ss (k % 2 ^ 8) d.remainder e
      (makes_after (MovImm32 Rcx 8) (Shift ShiftOp.Shr Wide.W32 Rax ∷ cut W8 Rax ∷ []) bytes g ss w1 _ p (scratch_same bytes bytes.rax 8 w.rdx)
      (makes_after (Shift ShiftOp.Shr Wide.W32 Rax) (cut W8 Rax ∷ []) w1 p.flags ss w2 _ q (scratch_same w1 k 8 w.rdx)
      (makes_one (cut W8 Rax) w2 q.flags ss (record w2 { rax = k % 2 ^ 8 }) (cut_passes w2 q.flags ss W8 Rax) (scratch_same w2 _ 8 w.rdx))))

module _ (w : Words) (f : Flags) (ss : List Segment) (signed : Bool) (a : ℕ) (agrees : Agrees signed W8 (dividend Size.W8 (in_order w)) a (low_bits W8 w.rcx)) where
  bytes_answer : (rest : Bool) → Answers (Div signed Size.W8 Rcx ∷ byte_tail rest) w f ss (binary (division signed rest) W8 a (low_bits W8 w.rcx))
  bytes_answer true = div_answers w f ss signed true Size.W8 W8 (byte_tail true) (after_division Size.W8 w) a refl agrees (registers_after Size.W8 w) (same_after Size.W8 w) (λ d hq hr g. next_byte w g ss d hq hr)
  bytes_answer false = div_answers w f ss signed false Size.W8 W8 (byte_tail false) (after_division Size.W8 w) a refl agrees (registers_after Size.W8 w) (same_after Size.W8 w) (λ d hq hr g. low_byte w g ss d hq hr)

-- a number that is its own dividend
plain_agrees : (w : Width) (n a b : ℕ) → n ≡ a → a < modulus w → Agrees false w n a b
plain_agrees w n a b e lt = subst (λ k. Agrees false w k a b) (sym e) (unsigned_agrees w a b lt)

module _ (w : Words) (f : Flags) (ss : List Segment) where
  abbrev a_of : Width → ℕ
  a_of wi = low_bits wi w.rax

  abbrev b_of : Width → ℕ
  b_of wi = low_bits wi w.rcx

  byte_agrees : (signed : Bool) → Agrees signed W8 (fill_of signed W8 w.rax % 2 ^ 16) (a_of W8) (b_of W8)
  byte_agrees true = signed_agrees W8 (sign_of W8 w.rax % 2 ^ 16) (a_of W8) (b_of W8) (mod-lt w.rax (modulus_some W8)) (mod-lt w.rcx (modulus_some W8)) (byte_double w.rax)
  byte_agrees false = plain_agrees W8 (w.rax % 2 ^ 8 % 2 ^ 16) (a_of W8) (b_of W8) (omega arith) (mod-lt w.rax (modulus_some W8))

  byte_answers : (signed rest : Bool) → Answers (div_row signed rest W8) w f ss (binary (division signed rest) W8 (a_of W8) (b_of W8))
  byte_answers signed true =
      let k = fill_of signed W8 w.rax in
      let w1 : Words = record w { rax = k } in
      let p = fill_passes w f ss signed W8 Rax in
      answers_after (filled signed W8 Rax) (Div signed Size.W8 Rcx ∷ byte_tail true) w f ss w1 _ p (scratch_same w k w.rcx w.rdx) (bytes_answer w1 p.flags ss signed (a_of W8) (byte_agrees signed) true)
  byte_answers signed false =
      let k = fill_of signed W8 w.rax in
      let w1 : Words = record w { rax = k } in
      let p = fill_passes w f ss signed W8 Rax in
      answers_after (filled signed W8 Rax) (Div signed Size.W8 Rcx ∷ byte_tail false) w f ss w1 _ p (scratch_same w k w.rcx w.rdx) (bytes_answer w1 p.flags ss signed (a_of W8) (byte_agrees signed) false)

  answers16 : (signed rest : Bool) → Answers (div_row signed rest W16) w f ss (binary (division signed rest) W16 (a_of W16) (b_of W16))
  answers16 true rest =
      let w1 : Words = record w { rdx = w.rdx / 2 ^ 16 * 2 ^ 16 + sign_fill 16 w.rax } in
      let p = high16 w f ss in
      answers_after (High HighSize.W16) (Div true Size.W16 Rcx ∷ Mov Wide.W64 Rax (if rest then Rdx else Rax) ∷ cut W16 Rax ∷ []) w f ss w1 _ p (scratch_same w w.rax w.rcx w1.rdx)
      (halves16 w1 p.flags ss true rest (signed_agrees W16 (dividend Size.W16 (in_order w1)) (a_of W16) (b_of W16) (mod-lt w.rax (modulus_some W16)) (mod-lt w.rcx (modulus_some W16)) (double16 w.rdx w.rax)))
  answers16 false rest =
      let w1 : Words = record w { rdx = 0 } in
      let p = zero_high w f ss in
      answers_after (MovImm32 Rdx 0) (Div false Size.W16 Rcx ∷ Mov Wide.W64 Rax (if rest then Rdx else Rax) ∷ cut W16 Rax ∷ []) w f ss w1 _ p (scratch_same w w.rax w.rcx 0)
      (halves16 w1 p.flags ss false rest (plain_agrees W16 (dividend Size.W16 (in_order w1)) (a_of W16) (b_of W16) (omega arith) (mod-lt w.rax (modulus_some W16))))

  answers32 : (signed rest : Bool) → Answers (div_row signed rest W32) w f ss (binary (division signed rest) W32 (a_of W32) (b_of W32))
  answers32 true rest =
      let w1 : Words = record w { rdx = sign_fill 32 w.rax } in
      let p = high32 w f ss in
      answers_after (High HighSize.W32) (Div true Size.W32 Rcx ∷ Mov Wide.W64 Rax (if rest then Rdx else Rax) ∷ cut W32 Rax ∷ []) w f ss w1 _ p (scratch_same w w.rax w.rcx w1.rdx)
      (halves32 w1 p.flags ss true rest (signed_agrees W32 (dividend Size.W32 (in_order w1)) (a_of W32) (b_of W32) (mod-lt w.rax (modulus_some W32)) (mod-lt w.rcx (modulus_some W32)) (double32 w.rax)))
  answers32 false rest =
      let w1 : Words = record w { rdx = 0 } in
      let p = zero_high w f ss in
      answers_after (MovImm32 Rdx 0) (Div false Size.W32 Rcx ∷ Mov Wide.W64 Rax (if rest then Rdx else Rax) ∷ cut W32 Rax ∷ []) w f ss w1 _ p (scratch_same w w.rax w.rcx 0)
      (halves32 w1 p.flags ss false rest (plain_agrees W32 (dividend Size.W32 (in_order w1)) (a_of W32) (b_of W32) (omega arith) (mod-lt w.rax (modulus_some W32))))

  answers64 : (signed rest : Bool) → Answers (div_row signed rest W64) w f ss (binary (division signed rest) W64 (a_of W64) (b_of W64))
  answers64 true rest =
      let w1 : Words = record w { rdx = sign_fill 64 w.rax } in
      let p = high64 w f ss in
      answers_after (High HighSize.W64) (Div true Size.W64 Rcx ∷ Mov Wide.W64 Rax (if rest then Rdx else Rax) ∷ cut W64 Rax ∷ []) w f ss w1 _ p (scratch_same w w.rax w.rcx w1.rdx)
      (halves64 w1 p.flags ss true rest (signed_agrees W64 (dividend Size.W64 (in_order w1)) (a_of W64) (b_of W64) (mod-lt w.rax (modulus_some W64)) (mod-lt w.rcx (modulus_some W64)) (double64 w.rax)))
  answers64 false rest =
      let w1 : Words = record w { rdx = 0 } in
      let p = zero_high w f ss in
      answers_after (MovImm32 Rdx 0) (Div false Size.W64 Rcx ∷ Mov Wide.W64 Rax (if rest then Rdx else Rax) ∷ cut W64 Rax ∷ []) w f ss w1 _ p (scratch_same w w.rax w.rcx 0)
      (halves64 w1 p.flags ss false rest (plain_agrees W64 (dividend Size.W64 (in_order w1)) (a_of W64) (b_of W64) (omega arith) (mod-lt w.rax (modulus_some W64))))

-- a division of the low bits of rax and rcx
pub div_makes : (w : Words) (f : Flags) (ss : List Segment) (signed rest : Bool) (wi : Width) → IsWide wi → Answers (div_row signed rest wi) w f ss (binary (division signed rest) wi (low_bits wi w.rax) (low_bits wi w.rcx))
div_makes w f ss signed rest W1 wide = absurd wide
div_makes w f ss signed rest W8 wide = byte_answers w f ss signed rest
div_makes w f ss signed rest W16 wide = answers16 w f ss signed rest
div_makes w f ss signed rest W32 wide = answers32 w f ss signed rest
div_makes w f ss signed rest W64 wide = answers64 w f ss signed rest
