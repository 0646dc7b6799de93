-- Words of registers, after one of them was given another word.
use Rattle.std.proofs.Common.{◌≡◌, ◌≢◌, ℕ, ◌<◌, List, [], ◌∷◌, length, get_or, refl, sym, ◌∙◌, ap, inl, inr, ◌⊎◌, arith, lit≤}
use Rattle.std.proofs.lemmas.Bool.{cases_eq}
use Rattle.std.proofs.lemmas.List.{get_or-set_same, get_or-set_other, set-get_or, length-set}
use Rattle.x86_core.specs.declared.reg.Reg.{Reg}
use Rattle.x86_core.specs.declared.reg.Reg.TheVariants.{Rax, Rcx, Rdx, Rbx, Rsp, Rbp, Rsi, Rdi, R8, R9, R10, R11, R12, R13, R14, R15}
use Rattle.x86_core.specs.Registers.{number_of, word, with_word}

-- the register of a number
abbrev register_of : ℕ → Reg
register_of n = get_or (Rax ∷ Rcx ∷ Rdx ∷ Rbx ∷ Rsp ∷ Rbp ∷ Rsi ∷ Rdi ∷ R8 ∷ R9 ∷ R10 ∷ R11 ∷ R12 ∷ R13 ∷ R14 ∷ R15 ∷ []) n Rax

again : (r : Reg) → register_of (number_of r) ≡ r
again Rax = refl
again Rcx = refl
again Rdx = refl
again Rbx = refl
again Rsp = refl
again Rbp = refl
again Rsi = refl
again Rdi = refl
again R8 = refl
again R9 = refl
again R10 = refl
again R11 = refl
again R12 = refl
again R13 = refl
again R14 = refl
again R15 = refl

-- registers with one number are one
pub same_register : (r s : Reg) → number_of r ≡ number_of s → r ≡ s
same_register r s e = sym (again r) ∙ ap register_of e ∙ again s

pub register_cases : (r s : Reg) → (r ≡ s) ⊎ (r ≢ s)
register_cases r s = elim (cases_eq (number_of r) (number_of s)) [
  | inl e ↦ inl (same_register r s e)
  | inr other ↦ inr (λ e. other (ap number_of e))
]

pub number_below : (r : Reg) → number_of r < 16
number_below Rax = lit≤ tt
number_below Rcx = lit≤ tt
number_below Rdx = lit≤ tt
number_below Rbx = lit≤ tt
number_below Rsp = lit≤ tt
number_below Rbp = lit≤ tt
number_below Rsi = lit≤ tt
number_below Rdi = lit≤ tt
number_below R8 = lit≤ tt
number_below R9 = lit≤ tt
number_below R10 = lit≤ tt
number_below R11 = lit≤ tt
number_below R12 = lit≤ tt
number_below R13 = lit≤ tt
number_below R14 = lit≤ tt
number_below R15 = lit≤ tt

-- the word that was given, and the others
pub word_same : (regs : List ℕ) (r : Reg) (n : ℕ) → length regs ≡ 16 → word (with_word regs r n) r ≡ n
word_same regs r n long = get_or-set_same regs (number_of r) n 0 (omega (arith, long, number_below r))

pub word_other : (regs : List ℕ) (r s : Reg) (n : ℕ) → r ≢ s → word (with_word regs r n) s ≡ word regs s
word_other regs r s n other = get_or-set_other regs (number_of r) (number_of s) n 0 (λ e. other (sym (same_register s r e)))

-- a word that is there
pub word_again : (regs : List ℕ) (r : Reg) → with_word regs r (word regs r) ≡ regs
word_again regs r = set-get_or regs (number_of r) 0

pub registers_long : (regs : List ℕ) (r : Reg) (n : ℕ) → length (with_word regs r n) ≡ length regs
registers_long regs r n = length-set regs (number_of r) n
