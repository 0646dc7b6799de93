-- The count of calls at the start of a function: one call fewer may be made, and none past the last.
use Rattle.std.proofs.Common.{◌≡◌, ℕ, suc, ◌+◌, ◌-◌, ◌%◌, ◌^◌, ◌<◌, Bool, true, false, List, [], ◌∷◌, Some, refl, ◌∙◌, ap, arith}
use Rattle.std.specs.Prelude.{not, nat_lt, pos}
use Rattle.std.proofs.lemmas.Bool.{le-ltb}
use Rattle.behavior.specs.Ending.{Breakpoint}
use Rattle.x86_core.specs.declared.flags.Flags.{Flags}
use Rattle.x86_core.specs.declared.reg.Reg.TheVariants.{R15}
use Rattle.x86_core.specs.declared.image.Segment.{Segment}
use Rattle.x86_core.specs.declared.instr.Wide.{Wide}
use Rattle.x86_core.specs.declared.instr.AluOp.{AluOp}
use Rattle.x86_core.specs.declared.instr.ImmOp.{ImmOp}
use Rattle.x86_core.specs.declared.instr.Cond.{Cond}
use Rattle.x86_core.specs.declared.instr.Instr.{Instr}
use Rattle.x86_core.specs.declared.instr.Instr.TheVariants.{AluImm, Jcc, Int3}
use Rattle.x86_core.specs.Arithmetic.{alu_flags, alu_result, flag_if, known, on_one, holds}
use Rattle.x86_core.specs.Effect.{effect_of}
use Rattle.x86_rows.specs.Straight.{Core, Through, Stopped, ran, and_on, exec}
use Rattle.x86_rows.proofs.Rows.{exec-first}
use Rattle.x86_rows.proofs.Leaves.{jcc_falls, int3}
use Rattle.frame_rows.specs.Words.{Words, core_of}
use Rattle.frame_lower.specs.Rows.{count_row}

-- the first instruction of the count
abbrev pub one_fewer : Instr
one_fewer = AluImm ImmOp.Sub Wide.W64 R15 (pos 1)

-- the subtraction, and the flag that tells whether it went below 0
record Counted (w : Words) (f : Flags) (ss : List Segment) : Type 0 where
  flags : Flags
  runs : ran one_fewer (core_of w f ss) ≡ Through (core_of (record w { r15 = (w.r15 % 2 ^ 64 + 2 ^ 64 - 1) % 2 ^ 64 }) flags ss)
  tells : holds Cond.Ae flags ≡ Some (not (nat_lt (w.r15 % 2 ^ 64) 1))

counted : (w : Words) (f : Flags) (ss : List Segment) → Counted w f ss
unfolding effect_of
counted w f ss = record {
  flags = alu_flags AluOp.Sub 64 (w.r15 % 2 ^ 64) 1 (alu_result AluOp.Sub 64 (w.r15 % 2 ^ 64) 1);
  runs = refl;
  tells = by_test (nat_lt (w.r15 % 2 ^ 64) 1);
}
  where
    by_test : (b : Bool) → on_one not (known (flag_if b)) ≡ Some (not b)
    by_test true = refl
    by_test false = refl

-- a call more: one fewer is left, and the branch over the breakpoint is taken
pub record CountsDown (w : Words) (f : Flags) (ss : List Segment) (left : ℕ) : Type 0 where
  pub flags : Flags
  pub runs : exec (one_fewer ∷ []) (core_of w f ss) ≡ Through (core_of (record w { r15 = left }) flags ss)
  pub taken : holds Cond.Ae flags ≡ Some true

pub counts_down : (w : Words) (f : Flags) (ss : List Segment) (left : ℕ) → w.r15 ≡ suc left → left < 2 ^ 32 → CountsDown w f ss left
counts_down w f ss left is few =
    let x = counted w f ss in
    let rest : (w.r15 % 2 ^ 64 + 2 ^ 64 - 1) % 2 ^ 64 ≡ left = ap (λ n. (n % 2 ^ 64 + 2 ^ 64 - 1) % 2 ^ 64) is ∙ omega (arith, few) in
    record {
      flags = x.flags;
      runs = exec-first one_fewer [] (core_of w f ss) _ x.runs ∙ ap (λ n. Through (core_of (record w { r15 = n }) x.flags ss)) rest;
      taken = x.tells ∙ ap Some (ap (λ n. not (nat_lt (n % 2 ^ 64) 1)) is ∙ some left few);
    }
  where
    some : (n : ℕ) → n < 2 ^ 32 → not (nat_lt (suc n % 2 ^ 64) 1) ≡ true
    some n few = let e : suc n % 2 ^ 64 ≡ suc n = omega (arith, few) in ap (λ m. not (nat_lt m 1)) e ∙ ap not (le-ltb (suc n) 1 (omega arith))

-- no call more: the branch isn't taken, and the row stops at the breakpoint
pub record CountsOut (w : Words) (f : Flags) (ss : List Segment) : Type 0 where
  pub flags : Flags
  pub runs : exec (one_fewer ∷ []) (core_of w f ss) ≡ Through (core_of (record w { r15 = 2 ^ 64 - 1 }) flags ss)
  pub falls : holds Cond.Ae flags ≡ Some false
  pub stops : exec count_row (core_of w f ss) ≡ Stopped Breakpoint

pub counts_out : (w : Words) (f : Flags) (ss : List Segment) → w.r15 ≡ 0 → CountsOut w f ss
counts_out w f ss is =
    let x = counted w f ss in
    let below : (w.r15 % 2 ^ 64 + 2 ^ 64 - 1) % 2 ^ 64 ≡ 2 ^ 64 - 1 = ap (λ n. (n % 2 ^ 64 + 2 ^ 64 - 1) % 2 ^ 64) is in
    let one : ran one_fewer (core_of w f ss) ≡ Through (core_of (record w { r15 = 2 ^ 64 - 1 }) x.flags ss) = x.runs ∙ ap (λ n. Through (core_of (record w { r15 = n }) x.flags ss)) below in
    let none : holds Cond.Ae x.flags ≡ Some false = x.tells ∙ ap Some (ap (λ n. not (nat_lt (n % 2 ^ 64) 1)) is) in
    let c : Core = core_of (record w { r15 = 2 ^ 64 - 1 }) x.flags ss in
    record {
      flags = x.flags;
      runs = exec-first one_fewer [] (core_of w f ss) c one;
      falls = none;
      stops =
          exec-first one_fewer (Jcc Cond.Ae (pos 1) ∷ Int3 ∷ []) (core_of w f ss) c one ∙
          exec-first (Jcc Cond.Ae (pos 1)) (Int3 ∷ []) c c (jcc_falls c Cond.Ae (pos 1) none) ∙
          stopped c;
    }
  where
    stopped : (c : Core) → exec (Int3 ∷ []) c ≡ Stopped Breakpoint
    stopped c = ap (λ r. and_on r (exec [])) (int3 c)
