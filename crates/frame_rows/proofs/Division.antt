-- Divisions in numbers: of a dividend with twice the width, that has the sign or zeros above the number, they are those of the width.
use Rattle.std.proofs.Common.{◌≡◌, ℕ, zero, suc, ◌+◌, ◌-◌, ◌*◌, ◌/◌, ◌%◌, ◌<◌, ◌≤◌, ◌⊎◌, Bool, true, false, not, ◌&&◌, nat_eq, nat_lt, nat_le, if◌then◌else◌, Option, Some, None, Ok, Err, refl, sym, ◌∙◌, ap, subst, inl, inr, arith}
use Rattle.std.proofs.lemmas.Bool.{cases_lt, cases_eq, cases_Bool, eq-eqb, ne_eqb, lt-ltb, le-ltb, le-leb, lt-leb}
use Rattle.std.proofs.Math.Nat.{div-le_self, mod-le, div-lt_iff_lt-mul, mod-lt}
use Rattle.rd_num.specs.declared.width.Width.{Width}
use Rattle.rd_num.specs.declared.width.Width.TheVariants.{W1, W8, W16, W32, W64}
use Rattle.rd_num.specs.Number.{bits}
use Rattle.ir_core.specs.Arithmetic.{modulus, binary, overflows, or_divide, signed_quotient, signed_remainder, negated}
use Rattle.ir_core.specs.Arithmetic as ir
use Rattle.ir_core.specs.Stops.{Divide}
use Rattle.x86_core.specs.declared.divide.Division.{Division}
use Rattle.x86_core.specs.Arithmetic.{is_negative, magnitude, with_sign, has_room, differ, unsigned_division, signed_division}
use Rattle.x86_core.specs.Arithmetic as x86
use Rattle.low_core.specs.SelStep.{division}
use Rattle.frame_rows.proofs.Numbers.{half, two_halves, modulus_some}

-- the word that a division gives
abbrev pub part : Bool → Division → ℕ
part true d = d.remainder
part false d = d.quotient

-- either both have no answer, or both have the same
pub data Agrees (signed : Bool) (w : Width) (n a b : ℕ) : Type 0 where
  NoAnswer : x86.division signed (bits w) n b ≡ None → ((rest : Bool) → binary (division signed rest) w a b ≡ Err Divide) → Agrees signed w n a b
  SameAnswer : (d : Division) → x86.division signed (bits w) n b ≡ Some d → d.quotient < modulus w → d.remainder < modulus w → ((rest : Bool) → binary (division signed rest) w a b ≡ Ok (part rest d)) → Agrees signed w n a b

-- choices
taken : {A : Type 0} (b : Bool) (x y : A) → b ≡ true → (if b then x else y) ≡ x
taken true x y e = refl
taken false x y e = absurd (cc)

skipped : {A : Type 0} (b : Bool) (x y : A) → b ≡ false → (if b then x else y) ≡ y
skipped true x y e = absurd (cc)
skipped false x y e = refl

pub unsigned_agrees : (w : Width) (a b : ℕ) → a < modulus w → Agrees false w a a b
unsigned_agrees w a b lt = elim (cases_eq b 0) [
  | inl e ↦ NoAnswer (taken (nat_eq b 0) None _ (eq-eqb b 0 e)) (λ rest. none rest (eq-eqb b 0 e))
  | inr ne ↦
      let q = div-le_self a b in
      let r = mod-le a b in
      SameAnswer d (skipped (nat_eq b 0) None _ (ne_eqb b 0 ne) ∙ taken (nat_lt (a / b) (modulus w)) (Some d) None (lt-ltb (a / b) (modulus w) (omega (arith, q, lt)))) (omega (arith, q, lt)) (omega (arith, r, lt)) (λ rest. some rest (ne_eqb b 0 ne))
]
  where
    d : Division
    d = record { quotient = a / b; remainder = a % b }

    none : (rest : Bool) → nat_eq b 0 ≡ true → binary (division false rest) w a b ≡ Err Divide
    none true e = ap (λ z. or_divide z (a % b)) e
    none false e = ap (λ z. or_divide z (a / b)) e

    some : (rest : Bool) → nat_eq b 0 ≡ false → binary (division false rest) w a b ≡ Ok (part rest d)
    some true e = ap (λ z. or_divide z (a % b)) e
    some false e = ap (λ z. or_divide z (a / b)) e

-- a number on its side of the half
abbrev Side : ℕ → ℕ → Bool → Type 0
Side h n true = h ≤ n
Side h n false = n < h

on_side : (h n : ℕ) → Side h n (nat_le h n)
on_side h n = elim (cases_lt n h) [
  | inl lt ↦ subst (Side h n) (sym (lt-leb h n lt)) lt
  | inr le ↦ subst (Side h n) (sym (le-leb h n le)) le
]

-- how far a number is from zero, by its side
abbrev far : ℕ → Bool → ℕ → ℕ
far m s n = if s then m - n else n

abbrev fits : ℕ → Bool → ℕ → Bool
fits h negative q = if negative then nat_le q h else nat_lt q h

module _ (h m a b : ℕ) (some : 0 < h) (two : h + h ≡ m) (la : a < m) (lb : b < m) (ne : b ≡ 0 → ⊥) where
  -- a dividend that isn't the least number
  not_least : (b2 : Bool) → (a ≡ h → ⊥) → not (nat_eq a h && b2) ≡ true
  not_least b2 z = ap (λ t. not (t && b2)) (ne_eqb a h z)

  -- a divisor that isn't -1
  not_last : (t : Bool) → (b ≡ m - 1 → ⊥) → not (t && nat_eq b (m - 1)) ≡ true
  not_last t z = ap (λ u. not (t && u)) (ne_eqb b (m - 1) z) ∙ by_bool t
    where
      by_bool : (t : Bool) → not (t && false) ≡ true
      by_bool true = refl
      by_bool false = refl

  -- both numbers are negative
  both_negative : h ≤ a → h ≤ b → nat_lt ((m - a) / (m - b)) h ≡ not (nat_eq a h && nat_eq b (m - 1))
  both_negative ha hb = elim (cases_eq b (m - 1)) [
    | inl e ↦
        let one : m - b ≡ 1 = omega (arith, e, some, two) in
        let q : (m - a) / (m - b) ≡ m - a = ap (λ k. (m - a) / k) one ∙ omega arith in
        ap (λ k. nat_lt k h) q ∙ elim (cases_eq a h) [
          | inl f ↦ le-ltb (m - a) h (omega (arith, f, two)) ∙ sym (ap (λ t. not (t && nat_eq b (m - 1))) (eq-eqb a h f) ∙ ap not (eq-eqb b (m - 1) e))
          | inr g ↦ lt-ltb (m - a) h (below (cases_lt h a) g ha) ∙ sym (not_least (nat_eq b (m - 1)) g)
        ]
    | inr g ↦ lt-ltb ((m - a) / (m - b)) h (few (cases_lt (m - b) 2) g) ∙ sym (not_last (nat_eq a h) g)
  ]
    where
      below : (h < a) ⊎ (a ≤ h) → (a ≡ h → ⊥) → h ≤ a → m - a < h
      below (inl lt) g ha = omega (arith, lt, two, la)
      below (inr le) g ha = absurd (g (omega (arith, le, ha)))

      few : (m - b < 2) ⊎ (2 ≤ m - b) → (b ≡ m - 1 → ⊥) → (m - a) / (m - b) < h
      few (inl lt) g = absurd (g (omega (arith, lt, lb)))
      few (inr le) g =
          let k = m - b in
          let product : m - a < h * k = more k le in
          (div-lt_iff_lt-mul (omega (arith, le))).1 product
        where
          more : (k : ℕ) → 2 ≤ k → m - a < h * k
          more zero l = absurd (omega arith)
          more (suc zero) l = absurd (omega arith)
          more (suc (suc k)) l = let z : h * suc (suc k) ≡ h * k + h + h = omega arith in omega (arith, z, ha, two, some)

  -- the quotient has room unless the least number is divided by -1
  room_says : (s t : Bool) → Side h a s → Side h b t → fits h (differ s t) (far m s a / far m t b) ≡ not (nat_eq a h && nat_eq b (m - 1))
  room_says false false ha hb = let q = div-le_self a b in lt-ltb (a / b) h (omega (arith, q, ha)) ∙ sym (not_least (nat_eq b (m - 1)) (λ e. omega (arith, e, ha)))
  room_says false true ha hb = let q = div-le_self a (m - b) in le-leb (a / (m - b)) h (omega (arith, q, ha)) ∙ sym (not_least (nat_eq b (m - 1)) (λ e. omega (arith, e, ha)))
  room_says true false ha hb = let q = div-le_self (m - a) b in le-leb ((m - a) / b) h (omega (arith, q, ha, two)) ∙ sym (not_last (nat_eq a h) (λ e. omega (arith, e, hb, two, some)))
  room_says true true ha hb = both_negative ha hb

  -- no number is farther than the half
  far_small : (s : Bool) → Side h a s → far m s a < m
  far_small true ha = omega (arith, ha, two, some)
  far_small false ha = la

-- the two languages say the same of two signs
same_differ : (s t : Bool) → ir.differ s t ≡ differ s t
same_differ true t = refl
same_differ false t = refl

half_some : (w : Width) → 0 < half w
half_some W1 = omega arith
half_some W8 = omega arith
half_some W16 = omega arith
half_some W32 = omega arith
half_some W64 = omega arith

-- a dividend of twice the width has the sign of the number, and is as far from zero
pub record IsDouble (w : Width) (n a : ℕ) : Type 0 where
  pub sign : is_negative (2 * bits w) n ≡ is_negative (bits w) a
  pub size : magnitude (2 * bits w) n ≡ magnitude (bits w) a

-- a signed division by the dividend's sign and by how far it is from zero
abbrev by_parts : ℕ → Bool → ℕ → ℕ → Option Division
by_parts bits s far by =
    if nat_eq by 0 then None else (if has_room bits (differ s (is_negative bits by)) (far / magnitude bits by) then Some (record { quotient = with_sign bits (differ s (is_negative bits by)) (far / magnitude bits by); remainder = with_sign bits s (far % magnitude bits by) }) else None)

module _ (w : Width) (n a b : ℕ) (la : a < modulus w) (lb : b < modulus w) (double : IsDouble w n a) where
  abbrev s : Bool
  s = is_negative (bits w) a

  abbrev t : Bool
  t = is_negative (bits w) b

  abbrev q : ℕ
  q = magnitude (bits w) a / magnitude (bits w) b

  abbrev r : ℕ
  r = magnitude (bits w) a % magnitude (bits w) b

  abbrev answer : Division
  answer = record { quotient = with_sign (bits w) (differ s t) q; remainder = with_sign (bits w) s r }

  divided : x86.division true (bits w) n b ≡ by_parts (bits w) s (magnitude (bits w) a) b
  divided = ap (λ u. by_parts (bits w) u (magnitude (2 * bits w) n) b) double.sign ∙ ap (λ k. by_parts (bits w) s k b) double.size

  by_zero : b ≡ 0 → Agrees true w n a b
  by_zero e = NoAnswer (divided ∙ taken (nat_eq b 0) None _ (eq-eqb b 0 e)) (λ rest. none rest)
    where
      none : (rest : Bool) → binary (division true rest) w a b ≡ Err Divide
      none true = taken (nat_eq b 0) (Err Divide) _ (eq-eqb b 0 e)
      none false = taken (nat_eq b 0) (Err Divide) _ (eq-eqb b 0 e)

  signed_small : (u : Bool) (k : ℕ) → k < modulus w → with_sign (bits w) u k < modulus w
  signed_small true k lt = mod-lt (modulus w - k) (modulus_some w)
  signed_small false k lt = lt

  by_other : (b ≡ 0 → ⊥) → Agrees true w n a b
  by_other ne = elim (cases_Bool (overflows w a b)) [
    | inl o ↦ NoAnswer (divided ∙ skipped (nat_eq b 0) None _ (ne_eqb b 0 ne) ∙ skipped (has_room (bits w) (differ s t) q) (Some answer) None (room ∙ ap not o)) (λ rest. none rest o)
    | inr o ↦ SameAnswer answer (divided ∙ skipped (nat_eq b 0) None _ (ne_eqb b 0 ne) ∙ taken (has_room (bits w) (differ s t) q) (Some answer) None (room ∙ ap not o))
        (signed_small (differ s t) q (let d = div-le_self (magnitude (bits w) a) (magnitude (bits w) b) in omega (arith, d, near))) (signed_small s r (let d = mod-le (magnitude (bits w) a) (magnitude (bits w) b) in omega (arith, d, near))) (λ rest. some rest o)
  ]
    where
      near : magnitude (bits w) a < modulus w
      near = far_small (half w) (modulus w) a b (half_some w) (two_halves w) la lb ne s (on_side (half w) a)

      room : has_room (bits w) (differ s t) q ≡ not (overflows w a b)
      room = room_says (half w) (modulus w) a b (half_some w) (two_halves w) la lb ne s t (on_side (half w) a) (on_side (half w) b)

      none : (rest : Bool) → overflows w a b ≡ true → binary (division true rest) w a b ≡ Err Divide
      none true o = skipped (nat_eq b 0) (Err Divide) _ (ne_eqb b 0 ne) ∙ ap (λ z. or_divide z (signed_remainder w a b)) o
      none false o = skipped (nat_eq b 0) (Err Divide) _ (ne_eqb b 0 ne) ∙ ap (λ z. or_divide z (signed_quotient w a b)) o

      some : (rest : Bool) → overflows w a b ≡ false → binary (division true rest) w a b ≡ Ok (part rest answer)
      some true o = skipped (nat_eq b 0) (Err Divide) _ (ne_eqb b 0 ne) ∙ ap (λ z. or_divide z (signed_remainder w a b)) o
      some false o = skipped (nat_eq b 0) (Err Divide) _ (ne_eqb b 0 ne) ∙ ap (λ z. or_divide z (signed_quotient w a b)) o ∙ ap (λ z. Ok (if z then negated w q else q)) (same_differ s t)

  pub signed_agrees : Agrees true w n a b
  signed_agrees = elim (cases_eq b 0) [ inl e ↦ by_zero e | inr ne ↦ by_other ne ]
