-- Registers by name against the list of their words, and homes against scratch registers.
use Rattle.std.proofs.Common.{◌≡◌, ◌≢◌, ℕ, true, refl}
use Rattle.x86_core.specs.declared.reg.Reg.{Reg}
use Rattle.x86_core.specs.declared.reg.Reg.TheVariants.{Rax, Rcx, Rdx, Rbx, Rsp, Rbp, Rsi, Rdi, R8, R9, R10, R11, R12, R13, R14, R15}
use Rattle.x86_core.specs.Registers.{word, with_word}
use Rattle.frame_rows.specs.Words.{Words, in_order, held_in, with_held}
use Rattle.frame_rows.specs.Ties.{is_home, is_scratch}

pub word_held : (w : Words) (r : Reg) → word (in_order w) r ≡ held_in w r
word_held w Rax = refl
word_held w Rcx = refl
word_held w Rdx = refl
word_held w Rbx = refl
word_held w Rsp = refl
word_held w Rbp = refl
word_held w Rsi = refl
word_held w Rdi = refl
word_held w R8 = refl
word_held w R9 = refl
word_held w R10 = refl
word_held w R11 = refl
word_held w R12 = refl
word_held w R13 = refl
word_held w R14 = refl
word_held w R15 = refl

pub with_word_held : (w : Words) (r : Reg) (n : ℕ) → with_word (in_order w) r n ≡ in_order (with_held w r n)
with_word_held w Rax n = refl
with_word_held w Rcx n = refl
with_word_held w Rdx n = refl
with_word_held w Rbx n = refl
with_word_held w Rsp n = refl
with_word_held w Rbp n = refl
with_word_held w Rsi n = refl
with_word_held w Rdi n = refl
with_word_held w R8 n = refl
with_word_held w R9 n = refl
with_word_held w R10 n = refl
with_word_held w R11 n = refl
with_word_held w R12 n = refl
with_word_held w R13 n = refl
with_word_held w R14 n = refl
with_word_held w R15 n = refl

-- homes, the frame and the depth are what they were
pub record Same (w v : Words) : Type 0 where
  pub rbx : v.rbx ≡ w.rbx
  pub rbp : v.rbp ≡ w.rbp
  pub rsp : v.rsp ≡ w.rsp
  pub r12 : v.r12 ≡ w.r12
  pub r13 : v.r13 ≡ w.r13
  pub r14 : v.r14 ≡ w.r14
  pub r15 : v.r15 ≡ w.r15

pub home_same : (w v : Words) (r : Reg) → is_home r ≡ true → Same w v → held_in v r ≡ held_in w r
home_same w v Rbx h same = same.rbx
home_same w v Rbp h same = same.rbp
home_same w v R12 h same = same.r12
home_same w v R13 h same = same.r13
home_same w v R14 h same = same.r14
home_same w v r h same = absurd (cc)

-- a home that is written has the word, and rsp and r15 are what they were
pub home_written : (w : Words) (r : Reg) (n : ℕ) → is_home r ≡ true → held_in (with_held w r n) r ≡ n
home_written w Rbx n h = refl
home_written w Rbp n h = refl
home_written w R12 n h = refl
home_written w R13 n h = refl
home_written w R14 n h = refl
home_written w r n h = absurd (cc)

pub home_at_base : (w : Words) (r : Reg) (n : ℕ) → is_home r ≡ true → (with_held w r n).rsp ≡ w.rsp
home_at_base w Rbx n h = refl
home_at_base w Rbp n h = refl
home_at_base w R12 n h = refl
home_at_base w R13 n h = refl
home_at_base w R14 n h = refl
home_at_base w r n h = absurd (cc)

pub home_depth : (w : Words) (r : Reg) (n : ℕ) → is_home r ≡ true → (with_held w r n).r15 ≡ w.r15
home_depth w Rbx n h = refl
home_depth w Rbp n h = refl
home_depth w R12 n h = refl
home_depth w R13 n h = refl
home_depth w R14 n h = refl
home_depth w r n h = absurd (cc)

-- and so is another home
pub home_beside : (w : Words) (r s : Reg) (n : ℕ) → is_home r ≡ true → is_home s ≡ true → s ≢ r → held_in (with_held w r n) s ≡ held_in w s
home_beside w Rbx Rbx n h k ne = absurd (ne refl)
home_beside w Rbx Rbp n h k ne = refl
home_beside w Rbx R12 n h k ne = refl
home_beside w Rbx R13 n h k ne = refl
home_beside w Rbx R14 n h k ne = refl
home_beside w Rbx s n h k ne = absurd (cc)
home_beside w Rbp Rbx n h k ne = refl
home_beside w Rbp Rbp n h k ne = absurd (ne refl)
home_beside w Rbp R12 n h k ne = refl
home_beside w Rbp R13 n h k ne = refl
home_beside w Rbp R14 n h k ne = refl
home_beside w Rbp s n h k ne = absurd (cc)
home_beside w R12 Rbx n h k ne = refl
home_beside w R12 Rbp n h k ne = refl
home_beside w R12 R12 n h k ne = absurd (ne refl)
home_beside w R12 R13 n h k ne = refl
home_beside w R12 R14 n h k ne = refl
home_beside w R12 s n h k ne = absurd (cc)
home_beside w R13 Rbx n h k ne = refl
home_beside w R13 Rbp n h k ne = refl
home_beside w R13 R12 n h k ne = refl
home_beside w R13 R13 n h k ne = absurd (ne refl)
home_beside w R13 R14 n h k ne = refl
home_beside w R13 s n h k ne = absurd (cc)
home_beside w R14 Rbx n h k ne = refl
home_beside w R14 Rbp n h k ne = refl
home_beside w R14 R12 n h k ne = refl
home_beside w R14 R13 n h k ne = refl
home_beside w R14 R14 n h k ne = absurd (ne refl)
home_beside w R14 s n h k ne = absurd (cc)
home_beside w r s n h k ne = absurd (cc)

-- and a scratch register
pub home_scratch : (w : Words) (r t : Reg) (n : ℕ) → is_home r ≡ true → is_scratch t ≡ true → held_in (with_held w r n) t ≡ held_in w t
home_scratch w Rbx Rax n h k = refl
home_scratch w Rbx Rcx n h k = refl
home_scratch w Rbx Rdx n h k = refl
home_scratch w Rbx Rsi n h k = refl
home_scratch w Rbx Rdi n h k = refl
home_scratch w Rbx R8 n h k = refl
home_scratch w Rbx R9 n h k = refl
home_scratch w Rbx R10 n h k = refl
home_scratch w Rbx R11 n h k = refl
home_scratch w Rbx t n h k = absurd (cc)
home_scratch w Rbp Rax n h k = refl
home_scratch w Rbp Rcx n h k = refl
home_scratch w Rbp Rdx n h k = refl
home_scratch w Rbp Rsi n h k = refl
home_scratch w Rbp Rdi n h k = refl
home_scratch w Rbp R8 n h k = refl
home_scratch w Rbp R9 n h k = refl
home_scratch w Rbp R10 n h k = refl
home_scratch w Rbp R11 n h k = refl
home_scratch w Rbp t n h k = absurd (cc)
home_scratch w R12 Rax n h k = refl
home_scratch w R12 Rcx n h k = refl
home_scratch w R12 Rdx n h k = refl
home_scratch w R12 Rsi n h k = refl
home_scratch w R12 Rdi n h k = refl
home_scratch w R12 R8 n h k = refl
home_scratch w R12 R9 n h k = refl
home_scratch w R12 R10 n h k = refl
home_scratch w R12 R11 n h k = refl
home_scratch w R12 t n h k = absurd (cc)
home_scratch w R13 Rax n h k = refl
home_scratch w R13 Rcx n h k = refl
home_scratch w R13 Rdx n h k = refl
home_scratch w R13 Rsi n h k = refl
home_scratch w R13 Rdi n h k = refl
home_scratch w R13 R8 n h k = refl
home_scratch w R13 R9 n h k = refl
home_scratch w R13 R10 n h k = refl
home_scratch w R13 R11 n h k = refl
home_scratch w R13 t n h k = absurd (cc)
home_scratch w R14 Rax n h k = refl
home_scratch w R14 Rcx n h k = refl
home_scratch w R14 Rdx n h k = refl
home_scratch w R14 Rsi n h k = refl
home_scratch w R14 Rdi n h k = refl
home_scratch w R14 R8 n h k = refl
home_scratch w R14 R9 n h k = refl
home_scratch w R14 R10 n h k = refl
home_scratch w R14 R11 n h k = refl
home_scratch w R14 t n h k = absurd (cc)
home_scratch w r t n h k = absurd (cc)

-- homes are what they were where a scratch register is written
pub scratch_written : (w : Words) (t : Reg) (n : ℕ) → is_scratch t ≡ true → Same w (with_held w t n)
scratch_written w Rax n h = record { rbx = refl; rbp = refl; rsp = refl; r12 = refl; r13 = refl; r14 = refl; r15 = refl }
scratch_written w Rcx n h = record { rbx = refl; rbp = refl; rsp = refl; r12 = refl; r13 = refl; r14 = refl; r15 = refl }
scratch_written w Rdx n h = record { rbx = refl; rbp = refl; rsp = refl; r12 = refl; r13 = refl; r14 = refl; r15 = refl }
scratch_written w Rsi n h = record { rbx = refl; rbp = refl; rsp = refl; r12 = refl; r13 = refl; r14 = refl; r15 = refl }
scratch_written w Rdi n h = record { rbx = refl; rbp = refl; rsp = refl; r12 = refl; r13 = refl; r14 = refl; r15 = refl }
scratch_written w R8 n h = record { rbx = refl; rbp = refl; rsp = refl; r12 = refl; r13 = refl; r14 = refl; r15 = refl }
scratch_written w R9 n h = record { rbx = refl; rbp = refl; rsp = refl; r12 = refl; r13 = refl; r14 = refl; r15 = refl }
scratch_written w R10 n h = record { rbx = refl; rbp = refl; rsp = refl; r12 = refl; r13 = refl; r14 = refl; r15 = refl }
scratch_written w R11 n h = record { rbx = refl; rbp = refl; rsp = refl; r12 = refl; r13 = refl; r14 = refl; r15 = refl }
scratch_written w t n h = absurd (cc)
