-- Registers whose words have 64 bits.
use Rattle.std.proofs.Common.{◌≡◌, ℕ, zero, suc, ◌<◌, ◌^◌, ◌⊎◌, inl, inr, List, [], ◌∷◌, length, refl, sym, ◌∙◌, ap, subst, arith}
use Rattle.std.specs.Prelude.{slice_index, slice_set}
use Rattle.std.proofs.Math.ListN.{length-set}
use Rattle.x86_core.specs.declared.reg.Reg.{Reg}
use Rattle.x86_core.specs.Registers.{number_of, word, with_word}

-- after a word was set, it is there, or what was there
index_set : (xs : List ℕ) (i v j : ℕ) → (slice_index (slice_set xs i v) j ≡ v) ⊎ (slice_index (slice_set xs i v) j ≡ slice_index xs j)
index_set [] zero v j = inr refl
index_set [] (suc i) v j = inr refl
index_set (x ∷ xs) zero v zero = inl refl
index_set (x ∷ xs) zero v (suc j) = inr refl
index_set (x ∷ xs) (suc i) v zero = inr refl
index_set (x ∷ xs) (suc i) v (suc j) = index_set xs i v j

-- the word that was set
pub index_same : (xs : List ℕ) (i v : ℕ) → i < length xs → slice_index (slice_set xs i v) i ≡ v
index_same [] i v lt = absurd (omega (arith, lt))
index_same (x ∷ xs) zero v lt = refl
index_same (x ∷ xs) (suc i) v lt = index_same xs i v (omega (arith, lt))

-- another word
pub index_other : (xs : List ℕ) (i v j : ℕ) → (i ≡ j → ⊥) → slice_index (slice_set xs i v) j ≡ slice_index xs j
index_other [] zero v j h = refl
index_other [] (suc i) v j h = refl
index_other (x ∷ xs) zero v zero h = absurd (h refl)
index_other (x ∷ xs) zero v (suc j) h = refl
index_other (x ∷ xs) (suc i) v zero h = refl
index_other (x ∷ xs) (suc i) v (suc j) h = index_other xs i v j (λ e. h (ap (λ n. suc n) e))

-- sixteen words of 64 bits
pub record AreWords (regs : List ℕ) : Type 0 where
  pub long : length regs ≡ 16
  pub small : (i : ℕ) → slice_index regs i < 2 ^ 64

pub word_small : (regs : List ℕ) (r : Reg) → AreWords regs → word regs r < 2 ^ 64
word_small regs r h = h.small (number_of r)

-- with another word in a register
pub words_with : (regs : List ℕ) (r : Reg) (n : ℕ) → AreWords regs → n < 2 ^ 64 → AreWords (with_word regs r n)
words_with regs r n h lt = record {
  long = length-set regs (number_of r) n ∙ h.long;
  small = λ j. by_place j (index_set regs (number_of r) n j);
}
  where
    by_place : (j : ℕ) → (slice_index (with_word regs r n) j ≡ n) ⊎ (slice_index (with_word regs r n) j ≡ slice_index regs j) → slice_index (with_word regs r n) j < 2 ^ 64
    by_place j (inl e) = subst (λ m. m < 2 ^ 64) (sym e) lt
    by_place j (inr e) = subst (λ m. m < 2 ^ 64) (sym e) (h.small j)
