-- Numbers as their digits are read from the left.
use Rattle.std.proofs.Common.{◌≡◌, ℕ, ◌+◌, ◌-◌, ◌*◌, ◌^◌, ◌<◌, ◌≤◌, ◌⊎◌, Bool, true, false, List, [], ◌∷◌, length, take, get_or, ltb, leb, eqb, Option, Some, None, option_map, ℤ, pos, neg_ℤ, arith, ◌∙◌, sym, ap, refl, inl, inr}
use Rattle.std.specs.Prelude.{◌&&◌}
use Rattle.std.specs.List.{list_all}
use Rattle.std.specs.Char.{is_ascii_digit, digit_value}
use Rattle.std.specs.Str.Parse.{digits_value}
use Rattle.std.proofs.Math.Nat.{pow-le-pow_right}
use Rattle.std.proofs.lemmas.Grind.{pow_more}
use Rattle.std.proofs.lemmas.Bool.{cond-true, cond-false, lt-ltb, le-leb, leb-true, ltb-true, eqb-true, and_from, and_parts, cases_Bool}
use Rattle.std.proofs.lemmas.Bool.Decides.{nat_tests}
use Rattle.std.proofs.lemmas.Int.Digits.{digits_value_more}
use Rattle.std.proofs.lemmas.List.Elements.{All-more}
use Rattle.ir_lex.specs.Tokens.{AreDigits, SpellsNumber}
use Rattle.ir_lex.specs.First.{magnitude_of, number_of}
use Rattle.ir_lex.proofs.Fronts.{class_excludes}
use Rattle.std.proofs.lemmas.List.Sums.{AllPass-from_list_all, list_all-from_AllPass}

-- a number of i digits is below that power of ten, and below each higher one
pub below_power : (n i k : ℕ) → n < 10 ^ i → i ≤ k → n < 10 ^ k
below_power n i k h le = let p : 10 ^ i ≤ 10 ^ k = pow-le-pow_right {n = 10} (omega arith) {i = i} {j = k} le in omega arith

-- the value of a digit
pub digit-value : (b : ℕ) → is_ascii_digit b ≡ true → (48 ≤ b) × (b < 58) × (digit_value b ≡ b - 48)
digit-value b h = grind (arith, nat_tests)

-- one digit more takes one power of ten more
pub next-fits : (n i d : ℕ) → n < 10 ^ i → d < 10 → n * 10 + d < 10 ^ (i + 1)
next-fits n i d h l = omega (arith, pow_more 10 i)

-- one digit more in the value
pub next-value : (n i : ℕ) (ds : List ℕ) → i < length ds → n ≡ digits_value 10 (take i ds) → is_ascii_digit (get_or ds i 0) ≡ true → n * 10 + (get_or ds i 0 - 48) ≡ digits_value 10 (take (i + 1) ds)
next-value n i ds l e h =
    let d = digit-value (get_or ds i 0) h in
    ap (λ m. m * 10 + (get_or ds i 0 - 48)) e ∙ ap (λ v. digits_value 10 (take i ds) * 10 + v) (sym d.2) ∙ sym (digits_value_more 10 ds i l)

-- one digit more among the digits
pub next-digits : (i : ℕ) (ds : List ℕ) → i < length ds → list_all is_ascii_digit (take i ds) ≡ true → is_ascii_digit (get_or ds i 0) ≡ true → list_all is_ascii_digit (take (i + 1) ds) ≡ true
next-digits i ds l all h =
    list_all-from_AllPass is_ascii_digit (take (i + 1) ds) (All-more (λ x. is_ascii_digit x ≡ true) ds i 0 l (AllPass-from_list_all is_ascii_digit (take i ds) all) h)

-- digits have their value
magnitude_of-digits : (digits : List ℕ) → AreDigits digits → magnitude_of digits ≡ Some (digits_value 10 digits)
magnitude_of-digits digits d =
    cond-true (ltb 0 (length digits) && leb (length digits) 38 && list_all is_ascii_digit digits) (Some (digits_value 10 digits)) None
    (and_from (ltb 0 (length digits) && leb (length digits) 38) (list_all is_ascii_digit digits)
    (and_from (ltb 0 (length digits)) (leb (length digits) 38) (lt-ltb 0 (length digits) (let h = d.filled in omega arith)) (le-leb (length digits) 38 d.few))
    (list_all-from_AllPass is_ascii_digit digits d.bytes))

-- what has a magnitude is digits
magnitude_is : (digits : List ℕ) (n : ℕ) → magnitude_of digits ≡ Some n → AreDigits digits × (n ≡ digits_value 10 digits)
magnitude_is digits n e = is_by (cases_Bool test)
  where
    test : Bool
    test = ltb 0 (length digits) && leb (length digits) 38 && list_all is_ascii_digit digits

    is_by : (test ≡ true) ⊎ (test ≡ false) → AreDigits digits × (n ≡ digits_value 10 digits)
    is_by (inl t) =
        let both = and_parts (ltb 0 (length digits) && leb (length digits) 38) (list_all is_ascii_digit digits) t in
        let counts = and_parts (ltb 0 (length digits)) (leb (length digits) 38) both.0 in
        let same : Some (digits_value 10 digits) ≡ Some n = sym (cond-true test (Some (digits_value 10 digits)) None t) ∙ e in (
          record {
            filled = (let h = ltb-true 0 (length digits) counts.0 in omega arith);
            few = leb-true (length digits) 38 counts.1;
            bytes = AllPass-from_list_all is_ascii_digit digits both.1;
          },
          cc,
        )
    is_by (inr f) =
        let none : None ≡ Some n = sym (cond-false test (Some (digits_value 10 digits)) None f) ∙ e in absurd (cc)

-- what a mapped option holds comes from what it held
mapped_some : {A B : Type 0} (f : A → B) (o : Option A) (y : B) → option_map f o ≡ Some y → (x : A) × (o ≡ Some x) × (f x ≡ y)
mapped_some f None y e = absurd (cc)
mapped_some f (Some x) y e = (x, refl, cc)

-- what spells a number is read as the number
pub number_of-spelled : (n : ℤ) (run : List ℕ) → SpellsNumber n run → number_of run ≡ Some n
number_of-spelled n run (digits, d, inl (e, v)) = ap number_of e ∙ plain digits d ∙ ap Some (sym v)
  where
    plain : (digits : List ℕ) → AreDigits digits → number_of digits ≡ Some (pos (digits_value 10 digits))
    plain [] d = absurd (let h = d.filled in omega arith)
    plain (b ∷ bytes) d =
        cond-false (eqb b 45) (option_map (λ m. neg_ℤ (pos m)) (magnitude_of bytes)) (option_map pos (magnitude_of (b ∷ bytes)))
        (class_excludes is_ascii_digit 45 b refl (d.bytes 0 0 (omega arith)))
        ∙ ap (option_map pos) (magnitude_of-digits (b ∷ bytes) d)
number_of-spelled n run (digits, d, inr (e, v)) =
    ap number_of e ∙ ap (option_map (λ m. neg_ℤ (pos m))) (magnitude_of-digits digits d) ∙ ap Some (sym v)

-- what is read as a number spells it
pub number_is : (run : List ℕ) (n : ℤ) → number_of run ≡ Some n → SpellsNumber n run
number_is [] n e = absurd (cc)
number_is (b ∷ bytes) n e = is_by (cases_Bool (eqb b 45))
  where
    minus : ℕ → ℤ
    minus m = neg_ℤ (pos m)

    is_by : (eqb b 45 ≡ true) ⊎ (eqb b 45 ≡ false) → SpellsNumber n (b ∷ bytes)
    is_by (inl t) =
        let signed = sym (cond-true (eqb b 45) (option_map (λ m. neg_ℤ (pos m)) (magnitude_of bytes)) (option_map pos (magnitude_of (b ∷ bytes))) t) ∙ e in
        let m = mapped_some (λ m. neg_ℤ (pos m)) (magnitude_of bytes) n signed in
        let is = magnitude_is bytes m.0 m.1 in
        (bytes, is.0, inr (ap (λ z. z ∷ bytes) (eqb-true b 45 t), sym m.2 ∙ ap (λ z. neg_ℤ (pos z)) is.1))
    is_by (inr f) =
        let plain = sym (cond-false (eqb b 45) (option_map (λ m. neg_ℤ (pos m)) (magnitude_of bytes)) (option_map pos (magnitude_of (b ∷ bytes))) f) ∙ e in
        let m = mapped_some pos (magnitude_of (b ∷ bytes)) n plain in
        let is = magnitude_is (b ∷ bytes) m.0 m.1 in
        (b ∷ bytes, is.0, inl (refl, sym m.2 ∙ ap pos is.1))

-- what spells no number is read as none
pub number_of-none : (run : List ℕ) → ((n : ℤ) → ¬ (SpellsNumber n run)) → number_of run ≡ None
number_of-none run none = none_by (number_of run) refl
  where
    none_by : (o : Option ℤ) → number_of run ≡ o → number_of run ≡ None
    none_by None e = e
    none_by (Some n) e = absurd (none n (number_is run n e))
