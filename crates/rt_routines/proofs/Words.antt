-- The sixteen registers: those that routines change by their names, and the others by their numbers.
use Rattle.std.proofs.Common.{◌≡◌, ℕ, ◌+◌, ◌<◌, ◌^◌, true, List, [], ◌∷◌, length, refl, arith}
use Rattle.std.specs.Prelude.{slice_index, pos, negsuc}
use Rattle.x86_core.specs.declared.reg.Reg.{Reg}
use Rattle.x86_core.specs.declared.reg.Reg.TheVariants.{Rax, Rcx, Rdx, Rbx, Rsp, Rbp, Rsi, Rdi, R11, R12, R13, R14, R15}
use Rattle.x86_core.specs.declared.flags.Flags.{Flags}
use Rattle.x86_core.specs.declared.image.Segment.{Segment}
use Rattle.x86_core.specs.Registers.{word}
use Rattle.x86_core.specs.Arithmetic.{moved}
use Rattle.x86_rows.specs.Straight.{Core}
use Rattle.obj_rows.specs.Routines.{is_kept}

-- words of registers that are changed
pub record Used : Type 0 where
  pub rax : ℕ
  pub rcx : ℕ
  pub rdx : ℕ
  pub rsp : ℕ
  pub rsi : ℕ
  pub rdi : ℕ
  pub r11 : ℕ
  pub r15 : ℕ

-- in the order of the numbers
abbrev pub regs_of : (ℕ → ℕ) → Used → List ℕ
regs_of w u =
    u.rax ∷ u.rcx ∷ u.rdx ∷ w 3 ∷ u.rsp ∷ w 5 ∷ u.rsi ∷ u.rdi ∷
    w 8 ∷ w 9 ∷ w 10 ∷ u.r11 ∷ w 12 ∷ w 13 ∷ w 14 ∷ u.r15 ∷ []

abbrev pub used_of : List ℕ → Used
used_of regs = record {
  rax = word regs Rax;
  rcx = word regs Rcx;
  rdx = word regs Rdx;
  rsp = word regs Rsp;
  rsi = word regs Rsi;
  rdi = word regs Rdi;
  r11 = word regs R11;
  r15 = word regs R15;
}

abbrev pub core_of : (ℕ → ℕ) → Used → Flags → List Segment → Core
core_of w u f ss = record { regs = regs_of w u; flags = f; segments = ss }

-- sixteen words are of this form
pub regs_are : (regs : List ℕ) → length regs ≡ 16 → regs ≡ regs_of (slice_index regs) (used_of regs)
regs_are (a ∷ b ∷ c ∷ d ∷ e ∷ f ∷ g ∷ h ∷ i ∷ j ∷ k ∷ l ∷ m ∷ n ∷ o ∷ p ∷ []) long = refl
regs_are regs long = absurd (omega (arith, long))

-- registers that a call keeps
pub kept_same : (w : ℕ → ℕ) (u v : Used) → v.r15 ≡ u.r15 → (r : Reg) → is_kept r ≡ true → word (regs_of w v) r ≡ word (regs_of w u) r
kept_same w u v e Rbx k = refl
kept_same w u v e Rbp k = refl
kept_same w u v e R12 k = refl
kept_same w u v e R13 k = refl
kept_same w u v e R14 k = refl
kept_same w u v e R15 k = e
kept_same w u v e r k = absurd (cc)

-- eight bytes below, and eight above
pub eight_below : (p q : ℕ) → p + 8 ≡ q → q < 2 ^ 64 → moved q (negsuc 7) ≡ p
eight_below p q e small = omega (arith, e, small)

pub eight_above : (p : ℕ) → p + 8 < 2 ^ 64 → moved p (pos 8) ≡ p + 8
eight_above p small = omega (arith, small)
