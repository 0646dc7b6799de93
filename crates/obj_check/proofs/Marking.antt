-- Marks in words of 64.
use Rattle.std.proofs.Common.{◌≡◌, ℕ, ◌*◌, ◌%◌, ◌^◌, ◌<◌, Bool, true, false, ◌||◌, refl, sym, ◌∙◌, ap, subst, inl, inr, arith}
use Rattle.std.specs.Prelude.{nat_eq, bit_or}
use Rattle.std.specs.Int.{bit_at, w64}
use Rattle.std.proofs.lemmas.Bool.{cases_eq}
use Rattle.std.proofs.lemmas.Bool.Decides.{nat_tests}
use Rattle.std.proofs.lemmas.Nat.Bits.{bit_at_set_same, bit_at_set_other}
use Rattle.obj_check.specs.Marked.{is_set}

eq_same : (a b : ℕ) → a ≡ b → nat_eq a b ≡ true
eq_same a b h = grind (arith, nat_tests)

eq_other : (a b : ℕ) → (a ≡ b → ⊥) → nat_eq a b ≡ false
eq_other a b h = grind (arith, nat_tests)

-- a bit more
pub bit_set : (word bit i : ℕ) → bit < 64 → is_set (bit_or word (1 * 2 ^ bit % 2 ^ 64)) i ≡ (nat_eq bit i || is_set word i)
bit_set word bit i h = elim (cases_eq bit i) [
  | inl e ↦
      let one : bit_at (bit_or word (1 * 2 ^ bit % 2 ^ 64)) i ≡ 1 = subst (λ (j : ℕ). bit_at (bit_or word (1 * 2 ^ bit % 2 ^ 64)) j ≡ 1) e (bit_at_set_same w64 word bit h) in
      ap (λ (b : ℕ). nat_eq b 1) one ∙ ap (λ (b : Bool). b || is_set word i) (sym (eq_same bit i e))
  | inr n ↦
      ap (λ (b : ℕ). nat_eq b 1) (bit_at_set_other w64 word bit h i (λ e. n (sym e))) ∙ ap (λ (b : Bool). b || is_set word i) (sym (eq_other bit i n))
]

-- a register alone is among no others
pub or_none : (b c : Bool) → ((b || false) || c) ≡ (b || c)
or_none true c = refl
or_none false c = refl
