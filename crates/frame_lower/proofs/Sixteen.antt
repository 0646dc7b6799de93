-- Sixteen words in a list, each under its register's name.
use Rattle.std.proofs.Common.{◌≡◌, ℕ, List, [], ◌∷◌, length, refl, arith}
use Rattle.x86_core.specs.declared.reg.Reg.{Reg}
use Rattle.x86_core.specs.declared.reg.Reg.TheVariants.{Rax, Rcx, Rdx, Rbx, Rsp, Rbp, Rsi, Rdi, R8, R9, R10, R11, R12, R13, R14, R15}
use Rattle.x86_core.specs.Registers.{word}
use Rattle.frame_rows.specs.Words.{Words, in_order, held_in}

abbrev pub words_of : List ℕ → Words
words_of regs = record {
  rax = word regs Rax;
  rcx = word regs Rcx;
  rdx = word regs Rdx;
  rbx = word regs Rbx;
  rsp = word regs Rsp;
  rbp = word regs Rbp;
  rsi = word regs Rsi;
  rdi = word regs Rdi;
  r8 = word regs R8;
  r9 = word regs R9;
  r10 = word regs R10;
  r11 = word regs R11;
  r12 = word regs R12;
  r13 = word regs R13;
  r14 = word regs R14;
  r15 = word regs R15;
}

-- in their order they are the list
pub words_again : (regs : List ℕ) → length regs ≡ 16 → in_order (words_of regs) ≡ regs
words_again (a ∷ b ∷ c ∷ d ∷ e ∷ f ∷ g ∷ h ∷ i ∷ j ∷ k ∷ l ∷ m ∷ n ∷ o ∷ p ∷ []) long = refl
words_again regs long = absurd (omega (arith, long))

-- each of them is the one in the list
pub word_named : (regs : List ℕ) (r : Reg) → held_in (words_of regs) r ≡ word regs r
word_named regs Rax = refl
word_named regs Rcx = refl
word_named regs Rdx = refl
word_named regs Rbx = refl
word_named regs Rsp = refl
word_named regs Rbp = refl
word_named regs Rsi = refl
word_named regs Rdi = refl
word_named regs R8 = refl
word_named regs R9 = refl
word_named regs R10 = refl
word_named regs R11 = refl
word_named regs R12 = refl
word_named regs R13 = refl
word_named regs R14 = refl
word_named regs R15 = refl
