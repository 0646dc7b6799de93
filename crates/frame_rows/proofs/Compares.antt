-- Comparisons in numbers: what the flags of a difference of 64 bits say, and operands that are ready for it.
use Rattle.std.proofs.Common.{◌≡◌, ℕ, zero, suc, ◌+◌, ◌-◌, ◌%◌, ◌^◌, ◌<◌, ◌≤◌, Bool, true, false, not, ◌&&◌, ◌||◌, nat_eq, nat_lt, nat_le, ◌⊎◌, Some, refl, sym, ◌∙◌, ap, subst, inl, inr, arith}
use Rattle.std.proofs.lemmas.Bool.{cases_lt, cases_eq, eq-eqb, ne_eqb, lt-ltb, le-ltb, le-leb, lt-leb}
use Rattle.rd_num.specs.declared.width.Width.{Width}
use Rattle.rd_num.specs.declared.width.Width.TheVariants.{W1, W8, W16, W32, W64}
use Rattle.ir_core.specs.declared.instruction.Pred.{Pred}
use Rattle.ir_core.specs.declared.instruction.Pred.TheVariants.{Eq, Ne, Ult, Ule, Ugt, Uge, Slt, Sle, Sgt, Sge}
use Rattle.ir_core.specs.Arithmetic.{biased, compared}
use Rattle.x86_core.specs.declared.flags.Flags.{Flags}
use Rattle.x86_core.specs.declared.instr.AluOp.{AluOp}
use Rattle.x86_core.specs.Arithmetic.{alu_flags, is_negative, differ, flag_if, holds}
use Rattle.low_core.specs.SelShaped.{IsWide}
use Rattle.low_core.specs.SelStep.{low_bits}
use Rattle.frame_rows.specs.Code.{is_signed, condition, bit_condition}
use Rattle.frame_rows.proofs.Leaves.{sign_of, fill_of}
use Rattle.frame_rows.proofs.Numbers.{half, low_small, sign_low, sign_high}

-- the difference whose flags a comparison leaves
abbrev pub difference : ℕ → ℕ → ℕ
difference x y = (x + 2 ^ 64 - y) % 2 ^ 64

abbrev pub compare_flags : ℕ → ℕ → Flags
compare_flags x y = alu_flags AluOp.Cmp 64 x y (difference x y)

-- orders of numbers
not_le : (m n : ℕ) → not (nat_le m n) ≡ nat_lt n m
not_le m n = elim (cases_lt n m) [ inl lt ↦ ap not (lt-leb m n lt) ∙ sym (lt-ltb n m lt) | inr le ↦ ap not (le-leb m n le) ∙ sym (le-ltb n m le) ]

not_lt : (m n : ℕ) → not (nat_lt m n) ≡ nat_le n m
not_lt m n = elim (cases_lt m n) [ inl lt ↦ ap not (lt-ltb m n lt) ∙ sym (lt-leb n m lt) | inr le ↦ ap not (le-ltb m n le) ∙ sym (le-leb n m le) ]

lt_or_eq : (m n : ℕ) → (nat_lt m n || nat_eq m n) ≡ nat_le m n
lt_or_eq m n = elim (cases_lt m n) [
  | inl lt ↦ ap (λ b. b || nat_eq m n) (lt-ltb m n lt) ∙ sym (le-leb m n (omega arith))
  | inr le ↦ ap (λ b. b || nat_eq m n) (le-ltb m n le) ∙ elim (cases_eq m n) [
    | inl e ↦ eq-eqb m n e ∙ sym (le-leb m n (omega (arith, e)))
    | inr ne ↦ ne_eqb m n ne ∙ sym (lt-leb m n (above (cases_lt n m) ne le))
  ]
]
  where
    above : (n < m) ⊎ (m ≤ n) → (m ≡ n → ⊥) → n ≤ m → n < m
    above (inl lt) ne le = lt
    above (inr ge) ne le = absurd (ne (omega (arith, ge, le)))

eq_or_lt : (m n : ℕ) → (nat_eq m n || nat_lt m n) ≡ nat_le m n
eq_or_lt m n = swapped (nat_eq m n) (nat_lt m n) ∙ lt_or_eq m n
  where
    swapped : (a b : Bool) → (a || b) ≡ (b || a)
    swapped true true = refl
    swapped true false = refl
    swapped false true = refl
    swapped false false = refl

-- two numbers of 64 bits
module _ (x y : ℕ) (hx : x < 2 ^ 64) (hy : y < 2 ^ 64) where
  zero_says : nat_eq (difference x y) 0 ≡ nat_eq x y
  zero_says = elim (cases_eq x y) [
    | inl e ↦ eq-eqb (difference x y) 0 (omega (arith, e)) ∙ sym (eq-eqb x y e)
    | inr ne ↦ ne_eqb (difference x y) 0 (λ z. ne (omega (arith, z, hx, hy))) ∙ sym (ne_eqb x y ne)
  ]

  biased_equal : nat_eq x y ≡ nat_eq (biased W64 x) (biased W64 y)
  biased_equal = elim (cases_eq x y) [
    | inl e ↦ eq-eqb x y e ∙ sym (eq-eqb (biased W64 x) (biased W64 y) (ap (biased W64) e))
    | inr ne ↦ ne_eqb x y ne ∙ sym (ne_eqb (biased W64 x) (biased W64 y) (λ z. ne (omega (arith, z, hx, hy))))
  ]

-- the sign of a number of 64 bits
abbrev HasSign : ℕ → Bool → Type 0
HasSign n true = 2 ^ 63 ≤ n
HasSign n false = n < 2 ^ 63

has_sign : (n : ℕ) → HasSign n (is_negative 64 n)
has_sign n = elim (cases_lt n (2 ^ 63)) [
  | inl lt ↦ subst (HasSign n) (sym (lt-leb (2 ^ 63) n lt)) lt
  | inr le ↦ subst (HasSign n) (sym (le-leb (2 ^ 63) n le)) le
]

-- sign and overflow of a difference disagree where the first number is the lesser
signs_say : (x y : ℕ) → x < 2 ^ 64 → y < 2 ^ 64 → (a b r : Bool) → HasSign x a → HasSign y b → HasSign (difference x y) r → differ r (differ a b && differ a r) ≡ nat_lt (biased W64 x) (biased W64 y)
signs_say x y hx hy true true true a b r = sym (lt-ltb (biased W64 x) (biased W64 y) (omega (arith, hx, hy, a, b, r)))
signs_say x y hx hy true true false a b r = sym (le-ltb (biased W64 x) (biased W64 y) (omega (arith, hx, hy, a, b, r)))
signs_say x y hx hy true false true a b r = sym (lt-ltb (biased W64 x) (biased W64 y) (omega (arith, hx, hy, a, b, r)))
signs_say x y hx hy true false false a b r = sym (lt-ltb (biased W64 x) (biased W64 y) (omega (arith, hx, hy, a, b, r)))
signs_say x y hx hy false true true a b r = sym (le-ltb (biased W64 x) (biased W64 y) (omega (arith, hx, hy, a, b, r)))
signs_say x y hx hy false true false a b r = sym (le-ltb (biased W64 x) (biased W64 y) (omega (arith, hx, hy, a, b, r)))
signs_say x y hx hy false false true a b r = sym (lt-ltb (biased W64 x) (biased W64 y) (omega (arith, hx, hy, a, b, r)))
signs_say x y hx hy false false false a b r = sym (le-ltb (biased W64 x) (biased W64 y) (omega (arith, hx, hy, a, b, r)))

-- what a condition says of carry, zero, sign and overflow
abbrev says : Pred → Bool → Bool → Bool → Bool → Bool
says Eq c z s o = z
says Ne c z s o = not z
says Ult c z s o = c
says Ule c z s o = c || z
says Ugt c z s o = not (c || z)
says Uge c z s o = not c
says Slt c z s o = differ s o
says Sle c z s o = z || differ s o
says Sgt c z s o = not (z || differ s o)
says Sge c z s o = not (differ s o)

abbrev flags_of : Bool → Bool → Bool → Bool → Flags
flags_of c z s o = record { c = flag_if c; z = flag_if z; s = flag_if s; o = flag_if o }

all_known : (p : Pred) (c z s o : Bool) → holds (condition p) (flags_of c z s o) ≡ Some (says p c z s o)
all_known Eq c true s o = refl
all_known Eq c false s o = refl
all_known Ne c true s o = refl
all_known Ne c false s o = refl
all_known Ult true z s o = refl
all_known Ult false z s o = refl
all_known Ule true true s o = refl
all_known Ule true false s o = refl
all_known Ule false true s o = refl
all_known Ule false false s o = refl
all_known Ugt true true s o = refl
all_known Ugt true false s o = refl
all_known Ugt false true s o = refl
all_known Ugt false false s o = refl
all_known Uge true z s o = refl
all_known Uge false z s o = refl
all_known Slt c z true true = refl
all_known Slt c z true false = refl
all_known Slt c z false true = refl
all_known Slt c z false false = refl
all_known Sle c true true true = refl
all_known Sle c true true false = refl
all_known Sle c true false true = refl
all_known Sle c true false false = refl
all_known Sle c false true true = refl
all_known Sle c false true false = refl
all_known Sle c false false true = refl
all_known Sle c false false false = refl
all_known Sgt c true true true = refl
all_known Sgt c true true false = refl
all_known Sgt c true false true = refl
all_known Sgt c true false false = refl
all_known Sgt c false true true = refl
all_known Sgt c false true false = refl
all_known Sgt c false false true = refl
all_known Sgt c false false false = refl
all_known Sge c z true true = refl
all_known Sge c z true false = refl
all_known Sge c z false true = refl
all_known Sge c z false false = refl

-- after a comparison the condition holds where the predicate does
pub condition_says : (p : Pred) (x y : ℕ) → x < 2 ^ 64 → y < 2 ^ 64 → holds (condition p) (compare_flags x y) ≡ Some (compared p W64 x y)
condition_says p x y hx hy = all_known p (nat_lt x y) (nat_eq (difference x y) 0) (is_negative 64 (difference x y)) overflowed ∙ ap Some (said p)
  where
    overflowed : Bool
    overflowed = differ (is_negative 64 x) (is_negative 64 y) && differ (is_negative 64 x) (is_negative 64 (difference x y))

    zeros : nat_eq (difference x y) 0 ≡ nat_eq x y
    zeros = zero_says x y hx hy

    less : differ (is_negative 64 (difference x y)) overflowed ≡ nat_lt (biased W64 x) (biased W64 y)
    less = signs_say x y hx hy (is_negative 64 x) (is_negative 64 y) (is_negative 64 (difference x y)) (has_sign x) (has_sign y) (has_sign (difference x y))

    at_most : (nat_eq (difference x y) 0 || differ (is_negative 64 (difference x y)) overflowed) ≡ nat_le (biased W64 x) (biased W64 y)
    at_most =
        ap (λ b. b || differ (is_negative 64 (difference x y)) overflowed) (zeros ∙ biased_equal x y hx hy) ∙ ap (λ b. nat_eq (biased W64 x) (biased W64 y) || b) less ∙
        eq_or_lt (biased W64 x) (biased W64 y)

    below : (nat_lt x y || nat_eq (difference x y) 0) ≡ nat_le x y
    below = ap (λ b. nat_lt x y || b) zeros ∙ lt_or_eq x y

    said : (p : Pred) → says p (nat_lt x y) (nat_eq (difference x y) 0) (is_negative 64 (difference x y)) overflowed ≡ compared p W64 x y
    said Eq = zeros
    said Ne = ap not zeros
    said Ult = refl
    said Ule = below
    said Ugt = ap not below ∙ not_le x y
    said Uge = not_lt x y
    said Slt = less
    said Sle = at_most
    said Sgt = ap not at_most ∙ not_le (biased W64 x) (biased W64 y)
    said Sge = ap not less ∙ not_lt (biased W64 x) (biased W64 y)

-- signed numbers in 64 bits are as far apart as they were
moved : (w : Width) (a : ℕ) → IsWide w → biased W64 (sign_of w a) ≡ biased w (low_bits w a) + (2 ^ 63 - half w)
moved W1 a wide = absurd wide
moved W8 a wide = elim (cases_lt (a % 2 ^ 8) (2 ^ 7)) [ inl lt ↦ let e = sign_low W8 a wide lt in omega (arith, e, lt) | inr le ↦ let e = sign_high W8 a wide le in omega (arith, e, le) ]
moved W16 a wide = elim (cases_lt (a % 2 ^ 16) (2 ^ 15)) [ inl lt ↦ let e = sign_low W16 a wide lt in omega (arith, e, lt) | inr le ↦ let e = sign_high W16 a wide le in omega (arith, e, le) ]
moved W32 a wide = elim (cases_lt (a % 2 ^ 32) (2 ^ 31)) [ inl lt ↦ let e = sign_low W32 a wide lt in omega (arith, e, lt) | inr le ↦ let e = sign_high W32 a wide le in omega (arith, e, le) ]
moved W64 a wide = omega arith

pub sign_small : (w : Width) (a : ℕ) → sign_of w a < 2 ^ 64
sign_small W1 a = omega arith
sign_small W8 a = elim (cases_lt (a % 2 ^ 8) (2 ^ 7)) [ inl lt ↦ let e = sign_low W8 a tt lt in omega (arith, e, lt) | inr le ↦ let e = sign_high W8 a tt le in omega (arith, e) ]
sign_small W16 a = elim (cases_lt (a % 2 ^ 16) (2 ^ 15)) [ inl lt ↦ let e = sign_low W16 a tt lt in omega (arith, e, lt) | inr le ↦ let e = sign_high W16 a tt le in omega (arith, e) ]
sign_small W32 a = elim (cases_lt (a % 2 ^ 32) (2 ^ 31)) [ inl lt ↦ let e = sign_low W32 a tt lt in omega (arith, e, lt) | inr le ↦ let e = sign_high W32 a tt le in omega (arith, e) ]
sign_small W64 a = omega arith

pub fill_small : (signed : Bool) (w : Width) (a : ℕ) → fill_of signed w a < 2 ^ 64
fill_small true w a = sign_small w a
fill_small false w a = low_small w a

lt_moved : (m n c : ℕ) → nat_lt (m + c) (n + c) ≡ nat_lt m n
lt_moved m n c = elim (cases_lt m n) [ inl lt ↦ lt-ltb (m + c) (n + c) (omega arith) ∙ sym (lt-ltb m n lt) | inr le ↦ le-ltb (m + c) (n + c) (omega arith) ∙ sym (le-ltb m n le) ]

le_moved : (m n c : ℕ) → nat_le (m + c) (n + c) ≡ nat_le m n
le_moved m n c = elim (cases_lt n m) [ inl lt ↦ lt-leb (m + c) (n + c) (omega arith) ∙ sym (lt-leb m n lt) | inr le ↦ le-leb (m + c) (n + c) (omega arith) ∙ sym (le-leb m n le) ]

module _ (w : Width) (a b : ℕ) (wide : IsWide w) where
  sides : (f : ℕ → ℕ → Bool) → f (biased W64 (sign_of w a)) (biased W64 (sign_of w b)) ≡ f (biased w (low_bits w a) + (2 ^ 63 - half w)) (biased w (low_bits w b) + (2 ^ 63 - half w))
  sides f = ap (λ n. f n (biased W64 (sign_of w b))) (moved w a wide) ∙ ap (f (biased w (low_bits w a) + (2 ^ 63 - half w))) (moved w b wide)

  -- operands that are ready compare as their low bits do
  pub filled_compared : (p : Pred) → compared p W64 (fill_of (is_signed p) w a) (fill_of (is_signed p) w b) ≡ compared p w (low_bits w a) (low_bits w b)
  filled_compared Eq = refl
  filled_compared Ne = refl
  filled_compared Ult = refl
  filled_compared Ule = refl
  filled_compared Ugt = refl
  filled_compared Uge = refl
  filled_compared Slt = sides nat_lt ∙ lt_moved (biased w (low_bits w a)) (biased w (low_bits w b)) (2 ^ 63 - half w)
  filled_compared Sle = sides nat_le ∙ le_moved (biased w (low_bits w a)) (biased w (low_bits w b)) (2 ^ 63 - half w)
  filled_compared Sgt = sides (λ m n. nat_lt n m) ∙ lt_moved (biased w (low_bits w b)) (biased w (low_bits w a)) (2 ^ 63 - half w)
  filled_compared Sge = sides (λ m n. nat_le n m) ∙ le_moved (biased w (low_bits w b)) (biased w (low_bits w a)) (2 ^ 63 - half w)

-- of single bits: the signed order is the other one
abbrev mirrored : Pred → Pred
mirrored Slt = Ugt
mirrored Sle = Uge
mirrored Sgt = Ult
mirrored Sge = Ule
mirrored p = p

same_condition : (p : Pred) → bit_condition p ≡ condition (mirrored p)
same_condition Eq = refl
same_condition Ne = refl
same_condition Ult = refl
same_condition Ule = refl
same_condition Ugt = refl
same_condition Uge = refl
same_condition Slt = refl
same_condition Sle = refl
same_condition Sgt = refl
same_condition Sge = refl

bits_compared : (p : Pred) (x y : ℕ) → x < 2 → y < 2 → compared (mirrored p) W64 x y ≡ compared p W1 x y
bits_compared Eq x y hx hy = refl
bits_compared Ne x y hx hy = refl
bits_compared Ult x y hx hy = refl
bits_compared Ule x y hx hy = refl
bits_compared Ugt x y hx hy = refl
bits_compared Uge x y hx hy = refl
bits_compared Slt zero zero hx hy = refl
bits_compared Slt zero (suc zero) hx hy = refl
bits_compared Slt zero (suc (suc y)) hx hy = absurd (omega (arith, hy))
bits_compared Slt (suc zero) zero hx hy = refl
bits_compared Slt (suc zero) (suc zero) hx hy = refl
bits_compared Slt (suc zero) (suc (suc y)) hx hy = absurd (omega (arith, hy))
bits_compared Slt (suc (suc x)) y hx hy = absurd (omega (arith, hx))
bits_compared Sle zero zero hx hy = refl
bits_compared Sle zero (suc zero) hx hy = refl
bits_compared Sle zero (suc (suc y)) hx hy = absurd (omega (arith, hy))
bits_compared Sle (suc zero) zero hx hy = refl
bits_compared Sle (suc zero) (suc zero) hx hy = refl
bits_compared Sle (suc zero) (suc (suc y)) hx hy = absurd (omega (arith, hy))
bits_compared Sle (suc (suc x)) y hx hy = absurd (omega (arith, hx))
bits_compared Sgt zero zero hx hy = refl
bits_compared Sgt zero (suc zero) hx hy = refl
bits_compared Sgt zero (suc (suc y)) hx hy = absurd (omega (arith, hy))
bits_compared Sgt (suc zero) zero hx hy = refl
bits_compared Sgt (suc zero) (suc zero) hx hy = refl
bits_compared Sgt (suc zero) (suc (suc y)) hx hy = absurd (omega (arith, hy))
bits_compared Sgt (suc (suc x)) y hx hy = absurd (omega (arith, hx))
bits_compared Sge zero zero hx hy = refl
bits_compared Sge zero (suc zero) hx hy = refl
bits_compared Sge zero (suc (suc y)) hx hy = absurd (omega (arith, hy))
bits_compared Sge (suc zero) zero hx hy = refl
bits_compared Sge (suc zero) (suc zero) hx hy = refl
bits_compared Sge (suc zero) (suc (suc y)) hx hy = absurd (omega (arith, hy))
bits_compared Sge (suc (suc x)) y hx hy = absurd (omega (arith, hx))

pub bit_condition_says : (p : Pred) (x y : ℕ) → x < 2 → y < 2 → holds (bit_condition p) (compare_flags x y) ≡ Some (compared p W1 x y)
bit_condition_says p x y hx hy = ap (λ c. holds c (compare_flags x y)) (same_condition p) ∙ condition_says (mirrored p) x y (omega (arith, hx)) (omega (arith, hy)) ∙ ap Some (bits_compared p x y hx hy)
