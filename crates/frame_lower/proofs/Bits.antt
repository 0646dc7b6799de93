-- The test of a low bit before a branch.
use Rattle.std.proofs.Common.{◌≡◌, ◌%◌, ◌^◌, Bool, true, false, not, nat_eq, List, Some, refl, ◌∙◌, ap, arith}
use Rattle.std.specs.Prelude.{bit_and, pos}
use Rattle.std.proofs.lemmas.Nat.{and_mask}
use Rattle.x86_core.specs.declared.flags.Flags.{Flags}
use Rattle.x86_core.specs.declared.reg.Reg.TheVariants.{Rax}
use Rattle.x86_core.specs.declared.instr.Wide.{Wide}
use Rattle.x86_core.specs.declared.instr.AluOp.{AluOp}
use Rattle.x86_core.specs.declared.instr.ImmOp.{ImmOp}
use Rattle.x86_core.specs.declared.instr.Cond.{Cond}
use Rattle.x86_core.specs.declared.instr.Instr.{Instr}
use Rattle.x86_core.specs.declared.instr.Instr.TheVariants.{AluImm}
use Rattle.x86_core.specs.declared.image.Segment.{Segment}
use Rattle.x86_core.specs.Arithmetic.{alu_flags, flag_if, known, on_one, holds}
use Rattle.x86_core.specs.Effect.{effect_of}
use Rattle.x86_rows.specs.Straight.{Through, ran}
use Rattle.frame_rows.specs.Words.{Words, core_of}

-- the low bit of rax, with the flag that tells whether it is set
abbrev pub low_bit : Instr
low_bit = AluImm ImmOp.And Wide.W32 Rax (pos 1)

pub record Bit (w : Words) (f : Flags) (ss : List Segment) : Type 0 where
  pub flags : Flags
  pub runs : ran low_bit (core_of w f ss) ≡ Through (core_of (record w { rax = w.rax % 2 }) flags ss)
  pub tells : holds Cond.Ne flags ≡ Some (not (nat_eq (w.rax % 2) 0))

pub bit_law : (w : Words) (f : Flags) (ss : List Segment) → Bit w f ss
unfolding effect_of
bit_law w f ss =
    let r = bit_and (w.rax % 2 ^ 32) 1 in
    let flags = alu_flags AluOp.And 32 (w.rax % 2 ^ 32) 1 r in
    let low : r ≡ w.rax % 2 = and_mask (w.rax % 2 ^ 32) 1 ∙ omega arith in
    record {
      flags = flags;
      runs = ap (λ n. Through (core_of (record w { rax = n }) flags ss)) low;
      tells = by_test (nat_eq r 0) ∙ ap (λ n. Some (not (nat_eq n 0))) low;
    }
  where
    by_test : (b : Bool) → on_one not (known (flag_if b)) ≡ Some (not b)
    by_test true = refl
    by_test false = refl
