-- Operations of one width in numbers: done on 32 or 64 bits and cut, they are those of the low bits.
use Rattle.std.proofs.Common.{◌≡◌, ℕ, zero, suc, ◌+◌, ◌-◌, ◌*◌, ◌/◌, ◌%◌, ◌^◌, ◌<◌, ◌≤◌, Bool, true, false, nat_lt, nat_le, if◌then◌else◌, Ok, refl, sym, ◌∙◌, ap, inl, inr, arith}
use Rattle.std.specs.Prelude.{bit_and, bit_or, bit_xor}
use Rattle.std.proofs.lemmas.Nat.{and_mod, or_mod, xor_mod, or_lt, xor_lt, and_le_l, mul-mod, mul-mod_first}
use Rattle.std.proofs.lemmas.Bool.{cases_lt, lt-ltb, le-ltb, lt-leb, le-leb}
use Rattle.std.proofs.Math.Nat.{div-le_self, mod-eq_of_lt, mod-lt}
use Rattle.rd_num.specs.declared.width.Width.{Width}
use Rattle.rd_num.specs.declared.width.Width.TheVariants.{W1, W8, W16, W32, W64}
use Rattle.rd_num.specs.Number.{bits}
use Rattle.ir_core.specs.Arithmetic.{modulus, binary, sign_shifted, is_negative}
use Rattle.x86_core.specs.declared.instr.AluOp.{AluOp}
use Rattle.x86_core.specs.declared.instr.ShiftOp.{ShiftOp}
use Rattle.x86_core.specs.Arithmetic.{wide_bits, alu_result, shift_count, shifted}
use Rattle.low_core.specs.declared.sel.SelAlu.{SelAlu}
use Rattle.low_core.specs.declared.sel.SelAlu.TheVariants.{Add, Sub, Mul, And, Or, Xor, Shl, Shr, Sar}
use Rattle.low_core.specs.SelShaped.{IsWide}
use Rattle.low_core.specs.SelStep.{low_bits, alu_op}
use Rattle.frame_rows.specs.Code.{wide_of}
use Rattle.frame_rows.proofs.Leaves.{sign_of}

-- the numbers of the registers that an operation is done on
abbrev pub whole : Width → ℕ
whole w = 2 ^ wide_bits (wide_of w)

pub whole_low : (w : Width) (a : ℕ) → a % whole w % modulus w ≡ a % modulus w
whole_low W1 a = omega arith
whole_low W8 a = omega arith
whole_low W16 a = omega arith
whole_low W32 a = omega arith
whole_low W64 a = omega arith

pub low_small : (w : Width) (a : ℕ) → a % modulus w < 2 ^ 64
low_small W1 a = omega arith
low_small W8 a = omega arith
low_small W16 a = omega arith
low_small W32 a = omega arith
low_small W64 a = omega arith

-- the word of an operation on two numbers of a width
abbrev pub alu_word : SelAlu → Width → ℕ → ℕ → ℕ
alu_word Add w a b = (a + b) % modulus w
alu_word Sub w a b = (a + (modulus w - b)) % modulus w
alu_word Mul w a b = a * b % modulus w
alu_word And w a b = bit_and a b
alu_word Or w a b = bit_or a b
alu_word Xor w a b = bit_xor a b
alu_word Shl w a b = a * 2 ^ (b % bits w) % modulus w
alu_word Shr w a b = a / 2 ^ (b % bits w)
alu_word Sar w a b = sign_shifted w a (b % bits w)

pub alu_answer : (o : SelAlu) (w : Width) (a b : ℕ) → binary (alu_op o) w a b ≡ Ok (alu_word o w a b)
alu_answer Add w a b = refl
alu_answer Sub w a b = refl
alu_answer Mul w a b = refl
alu_answer And w a b = refl
alu_answer Or w a b = refl
alu_answer Xor w a b = refl
alu_answer Shl w a b = refl
alu_answer Shr w a b = refl
alu_answer Sar w a b = refl

pub sum_cut : (w : Width) (a b : ℕ) → alu_result AluOp.Add (wide_bits (wide_of w)) (a % whole w) (b % whole w) % modulus w ≡ alu_word Add w (low_bits w a) (low_bits w b)
sum_cut W1 a b = omega arith
sum_cut W8 a b = omega arith
sum_cut W16 a b = omega arith
sum_cut W32 a b = omega arith
sum_cut W64 a b = omega arith

pub difference_cut : (w : Width) (a b : ℕ) → alu_result AluOp.Sub (wide_bits (wide_of w)) (a % whole w) (b % whole w) % modulus w ≡ alu_word Sub w (low_bits w a) (low_bits w b)
difference_cut W1 a b = omega arith
difference_cut W8 a b = omega arith
difference_cut W16 a b = omega arith
difference_cut W32 a b = omega arith
difference_cut W64 a b = omega arith

pub and_cut : (w : Width) (a b : ℕ) → bit_and (a % whole w) (b % whole w) % modulus w ≡ bit_and (low_bits w a) (low_bits w b)
and_cut w a b = and_mod (a % whole w) (b % whole w) (bits w) ∙ ap (λ n. bit_and n (b % whole w % modulus w)) (whole_low w a) ∙ ap (bit_and (a % modulus w)) (whole_low w b)

pub or_cut : (w : Width) (a b : ℕ) → bit_or (a % whole w) (b % whole w) % modulus w ≡ bit_or (low_bits w a) (low_bits w b)
or_cut w a b = or_mod (a % whole w) (b % whole w) (bits w) ∙ ap (λ n. bit_or n (b % whole w % modulus w)) (whole_low w a) ∙ ap (bit_or (a % modulus w)) (whole_low w b)

pub xor_cut : (w : Width) (a b : ℕ) → bit_xor (a % whole w) (b % whole w) % modulus w ≡ bit_xor (low_bits w a) (low_bits w b)
xor_cut w a b = xor_mod (a % whole w) (b % whole w) (bits w) ∙ ap (λ n. bit_xor n (b % whole w % modulus w)) (whole_low w a) ∙ ap (bit_xor (a % modulus w)) (whole_low w b)

pub product_cut : (w : Width) (a b : ℕ) → a * b % whole w % modulus w ≡ low_bits w a * low_bits w b % modulus w
product_cut w a b = whole_low w (a * b) ∙ mul-mod a b (modulus w)

-- a number below two is zero or one
bit_product : (a b : ℕ) → a < 2 → b < 2 → bit_and a b ≡ a * b % 2
bit_product zero b la lb = let e : 0 ≡ 0 * b % 2 = omega arith in e
bit_product (suc zero) zero la lb = refl
bit_product (suc zero) (suc zero) la lb = refl
bit_product (suc zero) (suc (suc b)) la lb = absurd (omega arith)
bit_product (suc (suc a)) b la lb = absurd (omega arith)

pub bits_product : (a b : ℕ) → bit_and (a % 2 ^ 32) (b % 2 ^ 32) % 2 ≡ low_bits W1 a * low_bits W1 b % 2
bits_product a b = and_cut W1 a b ∙ bit_product (a % 2) (b % 2) (omega arith) (omega arith)

-- the amount of a shift, which counts modulo the width
pub amount_is : (w : Width) (b : ℕ) → shift_count 64 (b % bits w) ≡ low_bits w b % bits w
amount_is W1 b = omega arith
amount_is W8 b = omega arith
amount_is W16 b = omega arith
amount_is W32 b = omega arith
amount_is W64 b = omega arith

-- of 64 bits
long_low : (w : Width) (a : ℕ) → a % 2 ^ 64 % modulus w ≡ a % modulus w
long_low W1 a = omega arith
long_low W8 a = omega arith
long_low W16 a = omega arith
long_low W32 a = omega arith
long_low W64 a = omega arith

pub left_cut : (w : Width) (a by : ℕ) → shifted ShiftOp.Shl 64 (a % 2 ^ 64) by % modulus w ≡ low_bits w a * 2 ^ by % modulus w
left_cut w a by =
    long_low w (a % 2 ^ 64 * 2 ^ by) ∙ sym (mul-mod_first (a % 2 ^ 64) (2 ^ by) (modulus w)) ∙
    ap (λ n. n * 2 ^ by % modulus w) (long_low w a)

pub right_of : (w : Width) (a by : ℕ) → shifted ShiftOp.Shr 64 (a % modulus w % 2 ^ 64) by ≡ low_bits w a / 2 ^ by
right_of w a by = let s = low_small w a in let e : a % modulus w % 2 ^ 64 ≡ a % modulus w = omega (arith, s) in ap (λ n. n / 2 ^ by) e

-- choices by a test
by_less : {A : Type 0} (m n : ℕ) (x y : A) → m < n → (if nat_lt m n then x else y) ≡ x
by_less m n x y lt = ap (λ b. if b then x else y) (lt-ltb m n lt)

by_not_less : {A : Type 0} (m n : ℕ) (x y : A) → n ≤ m → (if nat_lt m n then x else y) ≡ y
by_not_less m n x y le = ap (λ b. if b then x else y) (le-ltb m n le)

by_least : {A : Type 0} (m n : ℕ) (x y : A) → m ≤ n → (if nat_le m n then x else y) ≡ x
by_least m n x y le = ap (λ b. if b then x else y) (le-leb m n le)

by_not_least : {A : Type 0} (m n : ℕ) (x y : A) → n < m → (if nat_le m n then x else y) ≡ y
by_not_least m n x y lt = ap (λ b. if b then x else y) (lt-leb m n lt)

-- half of the numbers of a width
abbrev pub half : Width → ℕ
half w = 2 ^ (bits w - 1)

pub two_halves : (w : Width) → half w + half w ≡ modulus w
two_halves W1 = refl
two_halves W8 = refl
two_halves W16 = refl
two_halves W32 = refl
two_halves W64 = refl

pub modulus_most : (w : Width) → modulus w ≤ 2 ^ 64
modulus_most W1 = omega arith
modulus_most W8 = omega arith
modulus_most W16 = omega arith
modulus_most W32 = omega arith
modulus_most W64 = omega arith

-- the sign in 64 bits, but for a single bit
pub sign_low : (w : Width) (a : ℕ) → IsWide w → a % modulus w < half w → sign_of w a ≡ a % modulus w
sign_low W1 a wide lt = absurd wide
sign_low W8 a wide lt = by_less (a % 2 ^ 8) (2 ^ 7) (a % 2 ^ 8) (a % 2 ^ 8 + (2 ^ 64 - 2 ^ 8)) lt
sign_low W16 a wide lt = by_less (a % 2 ^ 16) (2 ^ 15) (a % 2 ^ 16) (a % 2 ^ 16 + (2 ^ 64 - 2 ^ 16)) lt
sign_low W32 a wide lt = by_less (a % 2 ^ 32) (2 ^ 31) (a % 2 ^ 32) (a % 2 ^ 32 + (2 ^ 64 - 2 ^ 32)) lt
sign_low W64 a wide lt = refl

pub sign_high : (w : Width) (a : ℕ) → IsWide w → half w ≤ a % modulus w → sign_of w a ≡ a % modulus w + (2 ^ 64 - modulus w)
sign_high W1 a wide le = absurd wide
sign_high W8 a wide le = by_not_less (a % 2 ^ 8) (2 ^ 7) (a % 2 ^ 8) (a % 2 ^ 8 + (2 ^ 64 - 2 ^ 8)) le
sign_high W16 a wide le = by_not_less (a % 2 ^ 16) (2 ^ 15) (a % 2 ^ 16) (a % 2 ^ 16 + (2 ^ 64 - 2 ^ 16)) le
sign_high W32 a wide le = by_not_less (a % 2 ^ 32) (2 ^ 31) (a % 2 ^ 32) (a % 2 ^ 32 + (2 ^ 64 - 2 ^ 32)) le
sign_high W64 a wide le = omega arith

-- a number from the top of 64 bits down, cut
from_top : (w : Width) (q : ℕ) → q < modulus w → (2 ^ 64 - 1 - q) % modulus w ≡ modulus w - 1 - q
from_top W1 q lt = omega arith
from_top W8 q lt = omega arith
from_top W16 q lt = omega arith
from_top W32 q lt = omega arith
from_top W64 q lt = omega arith

pub modulus_some : (w : Width) → 0 < modulus w
modulus_some W1 = omega arith
modulus_some W8 = omega arith
modulus_some W16 = omega arith
modulus_some W32 = omega arith
modulus_some W64 = omega arith

-- a shift with the sign in 64 bits, by p = 2 ^ by
abbrev long_shift : ℕ → ℕ → ℕ
long_shift s p = if nat_lt s (2 ^ 63) then s / p else 2 ^ 64 - 1 - (2 ^ 64 - 1 - s) / p

shift_low : (w : Width) (s low p : ℕ) → low < half w → s ≡ low → long_shift (s % 2 ^ 64) p % modulus w ≡ (if nat_le (half w) low then modulus w - 1 - (modulus w - 1 - low) / p else low / p)
shift_low w s low p lt e =
    let two = two_halves w in
    let most = modulus_most w in
    let same : s % 2 ^ 64 ≡ low = omega (arith, e, lt, two, most) in
    let d = div-le_self low p in
    let inside : low / p < modulus w = omega (arith, d, lt, two) in
    ap (λ n. long_shift n p % modulus w) same ∙
    ap (λ n. n % modulus w) (by_less low (2 ^ 63) (low / p) (2 ^ 64 - 1 - (2 ^ 64 - 1 - low) / p) (omega (arith, lt, two, most))) ∙ mod-eq_of_lt inside ∙
    sym (by_not_least (half w) low (modulus w - 1 - (modulus w - 1 - low) / p) (low / p) lt)

shift_high : (w : Width) (s low p : ℕ) → half w ≤ low → low < modulus w → s ≡ low + (2 ^ 64 - modulus w) → long_shift (s % 2 ^ 64) p % modulus w ≡ (if nat_le (half w) low then modulus w - 1 - (modulus w - 1 - low) / p else low / p)
shift_high w s low p le lt e =
    let two = two_halves w in
    let most = modulus_most w in
    let same : s % 2 ^ 64 ≡ s = omega (arith, e, lt, most) in
    let rest : 2 ^ 64 - 1 - s ≡ modulus w - 1 - low = omega (arith, e, lt, most) in
    let d = div-le_self (modulus w - 1 - low) p in
    let inside : (modulus w - 1 - low) / p < modulus w = omega (arith, d, lt) in
    ap (λ n. long_shift n p % modulus w) same ∙
    ap (λ n. n % modulus w) (by_not_less s (2 ^ 63) (s / p) (2 ^ 64 - 1 - (2 ^ 64 - 1 - s) / p) (omega (arith, e, le, two, most, lt))) ∙
    ap (λ n. (2 ^ 64 - 1 - n / p) % modulus w) rest ∙ from_top w ((modulus w - 1 - low) / p) inside ∙
    sym (by_least (half w) low (modulus w - 1 - (modulus w - 1 - low) / p) (low / p) le)

-- a single bit is shifted by nothing
bit_shift : (a : ℕ) → long_shift (a % 2 ^ 64 % 2 ^ 64) 1 % 2 ≡ (if nat_le 1 (a % 2) then 2 - 1 - (2 - 1 - a % 2) / 1 else a % 2 / 1)
bit_shift a = elim (cases_lt (a % 2 ^ 64) (2 ^ 63)) [
  | inl lt ↦ ap (λ n. long_shift n 1 % 2) same ∙ ap (λ n. n % 2) (by_less (a % 2 ^ 64) (2 ^ 63) (a % 2 ^ 64 / 1) (2 ^ 64 - 1 - (2 ^ 64 - 1 - a % 2 ^ 64) / 1) lt) ∙ sym (right (a % 2 ^ 64 / 1 % 2) (omega arith))
  | inr le ↦ ap (λ n. long_shift n 1 % 2) same ∙ ap (λ n. n % 2) (by_not_less (a % 2 ^ 64) (2 ^ 63) (a % 2 ^ 64 / 1) (2 ^ 64 - 1 - (2 ^ 64 - 1 - a % 2 ^ 64) / 1) le) ∙
      sym (right ((2 ^ 64 - 1 - (2 ^ 64 - 1 - a % 2 ^ 64) / 1) % 2) (omega arith))
]
  where
    same : a % 2 ^ 64 % 2 ^ 64 ≡ a % 2 ^ 64
    same = omega arith

    right : (n : ℕ) → n ≡ a % 2 → (if nat_le 1 (a % 2) then 2 - 1 - (2 - 1 - a % 2) / 1 else a % 2 / 1) ≡ n
    right n e = elim (cases_lt (a % 2) 1) [
      | inl lt ↦ by_not_least 1 (a % 2) (2 - 1 - (2 - 1 - a % 2) / 1) (a % 2 / 1) lt ∙ omega (arith, e)
      | inr le ↦ by_least 1 (a % 2) (2 - 1 - (2 - 1 - a % 2) / 1) (a % 2 / 1) le ∙ omega (arith, e, le)
    ]

sign_by_half : (w : Width) (a p : ℕ) → IsWide w → long_shift (sign_of w a % 2 ^ 64) p % modulus w ≡ (if nat_le (half w) (a % modulus w) then modulus w - 1 - (modulus w - 1 - a % modulus w) / p else a % modulus w / p)
sign_by_half w a p wide = elim (cases_lt (a % modulus w) (half w)) [
  | inl lt ↦ shift_low w (sign_of w a) (a % modulus w) p lt (sign_low w a wide lt)
  | inr le ↦ shift_high w (sign_of w a) (a % modulus w) p le (mod-lt a (modulus_some w)) (sign_high w a wide le)
]

pub sign_cut : (w : Width) (a by : ℕ) → by < bits w → shifted ShiftOp.Sar 64 (sign_of w a % 2 ^ 64) by % modulus w ≡ sign_shifted w (low_bits w a) by
sign_cut W1 a zero lt = bit_shift a
sign_cut W1 a (suc by) lt = absurd (omega arith)
sign_cut W8 a by lt = sign_by_half W8 a (2 ^ by) tt
sign_cut W16 a by lt = sign_by_half W16 a (2 ^ by) tt
sign_cut W32 a by lt = sign_by_half W32 a (2 ^ by) tt
sign_cut W64 a by lt = sign_by_half W64 a (2 ^ by) tt

pub amount_small : (w : Width) (b : ℕ) → b % bits w < bits w
amount_small W1 b = omega arith
amount_small W8 b = omega arith
amount_small W16 b = omega arith
amount_small W32 b = omega arith
amount_small W64 b = omega arith

-- results are words
pub alu_small : (o : SelAlu) (w : Width) (a b : ℕ) → alu_word o w (low_bits w a) (low_bits w b) < 2 ^ 64
alu_small Add w a b = low_small w (low_bits w a + low_bits w b)
alu_small Sub w a b = low_small w (low_bits w a + (modulus w - low_bits w b))
alu_small Mul w a b = low_small w (low_bits w a * low_bits w b)
alu_small And w a b = let s = low_small w a in let l = and_le_l (low_bits w a) (low_bits w b) in omega (arith, s, l)
alu_small Or w a b = or_lt 64 (low_bits w a) (low_bits w b) (low_small w a) (low_small w b)
alu_small Xor w a b = xor_lt 64 (low_bits w a) (low_bits w b) (low_small w a) (low_small w b)
alu_small Shl w a b = low_small w (low_bits w a * 2 ^ (low_bits w b % bits w))
alu_small Shr w a b = let s = low_small w a in let d = div-le_self (low_bits w a) (2 ^ (low_bits w b % bits w)) in omega (arith, s, d)
alu_small Sar w a b = sign_small (is_negative w (low_bits w a)) (low_bits w a) (2 ^ (low_bits w b % bits w)) (low_small w a)
  where
    sign_small : (s : Bool) (n p : ℕ) → n < 2 ^ 64 → (if s then modulus w - 1 - (modulus w - 1 - n) / p else n / p) < 2 ^ 64
    sign_small true n p lt = let m = modulus_most w in omega (arith, m)
    sign_small false n p lt = let d = div-le_self n p in omega (arith, d, lt)
