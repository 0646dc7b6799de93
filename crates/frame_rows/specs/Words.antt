-- The words of the sixteen registers, each under its register's name.
use Rattle.std.specs.Prelude.{ℕ, List, [], ◌∷◌}
use Rattle.x86_core.specs.declared.reg.Reg.{Reg}
use Rattle.x86_core.specs.declared.reg.Reg.TheVariants.{Rax, Rcx, Rdx, Rbx, Rsp, Rbp, Rsi, Rdi, R8, R9, R10, R11, R12, R13, R14, R15}
use Rattle.x86_core.specs.declared.flags.Flags.{Flags}
use Rattle.x86_core.specs.declared.image.Segment.{Segment}
use Rattle.x86_rows.specs.Straight.{Core}

-- a word for each register
pub record Words : Type 0 where
  pub rax : ℕ
  pub rcx : ℕ
  pub rdx : ℕ
  pub rbx : ℕ
  pub rsp : ℕ
  pub rbp : ℕ
  pub rsi : ℕ
  pub rdi : ℕ
  pub r8 : ℕ
  pub r9 : ℕ
  pub r10 : ℕ
  pub r11 : ℕ
  pub r12 : ℕ
  pub r13 : ℕ
  pub r14 : ℕ
  pub r15 : ℕ

-- in the order of the registers' numbers
abbrev pub in_order : Words → List ℕ
in_order w =
    w.rax ∷ w.rcx ∷ w.rdx ∷ w.rbx ∷ w.rsp ∷ w.rbp ∷ w.rsi ∷ w.rdi ∷
    w.r8 ∷ w.r9 ∷ w.r10 ∷ w.r11 ∷ w.r12 ∷ w.r13 ∷ w.r14 ∷ w.r15 ∷ []

-- the word of a register
abbrev pub held_in : Words → Reg → ℕ
held_in w Rax = w.rax
held_in w Rcx = w.rcx
held_in w Rdx = w.rdx
held_in w Rbx = w.rbx
held_in w Rsp = w.rsp
held_in w Rbp = w.rbp
held_in w Rsi = w.rsi
held_in w Rdi = w.rdi
held_in w R8 = w.r8
held_in w R9 = w.r9
held_in w R10 = w.r10
held_in w R11 = w.r11
held_in w R12 = w.r12
held_in w R13 = w.r13
held_in w R14 = w.r14
held_in w R15 = w.r15

-- the words with another one in a register
abbrev pub with_held : Words → Reg → ℕ → Words
with_held w Rax n = record w { rax = n }
with_held w Rcx n = record w { rcx = n }
with_held w Rdx n = record w { rdx = n }
with_held w Rbx n = record w { rbx = n }
with_held w Rsp n = record w { rsp = n }
with_held w Rbp n = record w { rbp = n }
with_held w Rsi n = record w { rsi = n }
with_held w Rdi n = record w { rdi = n }
with_held w R8 n = record w { r8 = n }
with_held w R9 n = record w { r9 = n }
with_held w R10 n = record w { r10 = n }
with_held w R11 n = record w { r11 = n }
with_held w R12 n = record w { r12 = n }
with_held w R13 n = record w { r13 = n }
with_held w R14 n = record w { r14 = n }
with_held w R15 n = record w { r15 = n }

-- registers, flags and memory, as rows of instructions work on them
abbrev pub core_of : Words → Flags → List Segment → Core
core_of w f ss = record { regs = in_order w; flags = f; segments = ss }
