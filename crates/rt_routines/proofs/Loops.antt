-- A loop as long as enough bytes are left: one turn of it, and the way out.
use Rattle.std.proofs.Common.{◌≡◌, ℕ, suc, ◌+◌, ◌<◌, ◌≤◌, ◌^◌, ◌%◌, true, false, List, [], ◌∷◌, ◌++◌, length, Some, None, ◌∙◌, ap, subst, arith}
use Rattle.std.specs.Prelude.{ℤ, pos}
use Rattle.std.proofs.lemmas.Bool.{lt-ltb, le-ltb}
use Rattle.behavior.specs.Simulation.{Comes}
use Rattle.behavior.proofs.Stretch.{comes_one, comes_step, comes_join, comes_wider}
use Rattle.x86_core.specs.declared.reg.Reg.TheVariants.{Rdx}
use Rattle.x86_core.specs.declared.flags.Flags.{Flags}
use Rattle.x86_core.specs.declared.image.Segment.{Segment}
use Rattle.x86_core.specs.declared.instr.Wide.{Wide}
use Rattle.x86_core.specs.declared.instr.AluOp.{AluOp}
use Rattle.x86_core.specs.declared.instr.ImmOp.{ImmOp}
use Rattle.x86_core.specs.declared.instr.Cond.{Cond}
use Rattle.x86_core.specs.declared.instr.Instr.{Instr}
use Rattle.x86_core.specs.declared.instr.Instr.TheVariants.{AluImm, Jcc, Jmp}
use Rattle.x86_core.specs.Arithmetic.{moved, alu_flags, alu_result, flag_if, known, holds}
use Rattle.x86_core.specs.Step.{State}
use Rattle.x86_rows.specs.Straight.{Core, Through, exec}
use Rattle.x86_rows.proofs.Leaves.{alu_imm}
use Rattle.obj_core.specs.declared.object.Object.{Object}
use Rattle.obj_core.specs.declared.object.Place.{Place}
use Rattle.obj_core.specs.SymbolicMachine.{symbolic_step}
use Rattle.obj_rows.specs.Marked.{Marked, all_unlinked, unlinked, instrs_of, row_size, Stands, IsFunction}
use Rattle.obj_rows.specs.Standing.{Outside, standing}
use Rattle.obj_rows.proofs.Branches.{jumps, branches, falls}
use Rattle.obj_rows.proofs.Rows.{all_unlinked-append, instrs_of-unlinked, length-unlinked, stands_first, stands_behind, stands_one, stands_next}
use Rattle.obj_rows.proofs.Runs.{row_comes, step_through}
use Rattle.rt_routines.specs.Code.{loop_row}
use Rattle.rt_routines.proofs.Words.{Used, core_of}

-- the flags by which a loop goes on
abbrev pub counted : ℕ → ℕ → Flags
counted left bytes = alu_flags AluOp.Cmp 64 (left % 2 ^ 64) (bytes % 2 ^ 64) (alu_result AluOp.Cmp 64 (left % 2 ^ 64) (bytes % 2 ^ 64))

-- too few are left, or enough
too_few : (left bytes : ℕ) → left < bytes → bytes < 2 ^ 64 → holds Cond.B (counted left bytes) ≡ Some true
too_few left bytes less small = ap (λ b. known (flag_if b)) (lt-ltb (left % 2 ^ 64) (bytes % 2 ^ 64) (omega (arith, less, small)))

enough : (left bytes : ℕ) → bytes ≤ left → left < 2 ^ 64 → holds Cond.B (counted left bytes) ≡ Some false
enough left bytes more small = ap (λ b. known (flag_if b)) (le-ltb (left % 2 ^ 64) (bytes % 2 ^ 64) (omega (arith, more, small)))

module _ (o : Object) (n : ℕ) (row : List Marked) (is : IsFunction o n row) (bytes : ℕ) (skip again : ℤ) (body : List Instr) (off size : ℕ)
    (long : row_size (all_unlinked body) ≡ size) (skips : moved (off + 13) skip ≡ off + 18 + size) (agains : moved (off + 18 + size) again ≡ off) (small : bytes < 2 ^ 64)
    (stands : Stands row off (all_unlinked (loop_row bytes skip again body))) (out : Outside) (w : ℕ → ℕ) where
  abbrev compare : Instr
  compare = AluImm ImmOp.Cmp Wide.W64 Rdx (pos bytes)

  abbrev behind : List Marked
  behind = all_unlinked (body ++ Jmp again ∷ [])

  at_compare : Stands row off (unlinked compare ∷ [])
  at_compare = stands_one row off (unlinked compare) (unlinked (Jcc Cond.B skip) ∷ behind) stands

  at_branch : Stands row (off + 7) (unlinked (Jcc Cond.B skip) ∷ [])
  at_branch = stands_one row (off + 7) (unlinked (Jcc Cond.B skip)) behind (stands_next row off (unlinked compare) (unlinked (Jcc Cond.B skip) ∷ behind) stands)

  at_behind : Stands row (off + 13) (all_unlinked body ++ unlinked (Jmp again) ∷ [])
  at_behind =
      let there : off + 7 + 6 ≡ off + 13 = omega arith in
      subst (λ k. Stands row k (all_unlinked body ++ unlinked (Jmp again) ∷ [])) there
      (subst (Stands row (off + 7 + 6)) (all_unlinked-append body (Jmp again ∷ []))
      (stands_next row (off + 7) (unlinked (Jcc Cond.B skip)) behind (stands_next row off (unlinked compare) (unlinked (Jcc Cond.B skip) ∷ behind) stands)))

  at_body : Stands row (off + 13) (all_unlinked body)
  at_body = stands_first row (off + 13) (all_unlinked body) (unlinked (Jmp again) ∷ []) at_behind

  at_jump : Stands row (off + 13 + size) (unlinked (Jmp again) ∷ [])
  at_jump = subst (λ k. Stands row (off + 13 + k) (unlinked (Jmp again) ∷ [])) long (stands_behind row (off + 13) (all_unlinked body) (unlinked (Jmp again) ∷ []) at_behind)

  module _ (u : Used) (f : Flags) (ss : List Segment) where
    abbrev tested : Core
    tested = core_of w u (counted u.rdx bytes) ss

    compares : symbolic_step o (standing out (Place.Code n off) (core_of w u f ss)) ≡ standing out (Place.Code n (off + 7)) tested
    compares = step_through o n row is out off (unlinked compare) (core_of w u f ss) tested at_compare (alu_imm (core_of w u f ss) ImmOp.Cmp Wide.W64 Rdx (pos bytes))

    -- out of the loop
    pub leaves : u.rdx < bytes → Comes (symbolic_step o) 2 2 (standing out (Place.Code n off) (core_of w u f ss)) (standing out (Place.Code n (off + 18 + size)) tested)
    leaves less =
        let step = symbolic_step o in
        let t0 : State Place = standing out (Place.Code n off) (core_of w u f ss) in
        let t1 : State Place = standing out (Place.Code n (off + 7)) tested in
        let t2 : State Place = standing out (Place.Code n (off + 18 + size)) tested in
        let there : off + 7 + 6 ≡ off + 13 = omega arith in
        comes_step step 1 1 t0 t1 t2 compares
        (comes_one step t1 t2
        (branches o n row is out (off + 7) tested Cond.B None skip at_branch (too_few u.rdx bytes less small) ∙
        ap (λ k. standing out (Place.Code n k) tested) (ap (λ k. moved k skip) there ∙ skips)))

    -- once round
    pub turns : (d : Core) → bytes ≤ u.rdx → u.rdx < 2 ^ 64 → exec body tested ≡ Through d → Comes (symbolic_step o) (length body + 3) (length body + 3) (standing out (Place.Code n off) (core_of w u f ss)) (standing out (Place.Code n off) d)
    turns d more fits runs =
        let step = symbolic_step o in
        let t0 : State Place = standing out (Place.Code n off) (core_of w u f ss) in
        let t1 : State Place = standing out (Place.Code n (off + 7)) tested in
        let t2 : State Place = standing out (Place.Code n (off + 13)) tested in
        let t3 : State Place = standing out (Place.Code n (off + 13 + size)) d in
        let t4 : State Place = standing out (Place.Code n off) d in
        let count = length body in
        let there : off + 7 + 6 ≡ off + 13 = omega arith in
        let end : off + 13 + size + 5 ≡ off + 18 + size = omega arith in
        let plain : exec (instrs_of (all_unlinked body)) tested ≡ Through d = ap (λ row. exec row tested) (instrs_of-unlinked body) ∙ runs in
        let through = row_comes o n row is out (all_unlinked body) (off + 13) tested d at_body plain in
        let middle : Comes step count count t2 t3 = subst (λ k. Comes step k k t2 t3) (length-unlinked body) (subst (λ k. Comes step (length (all_unlinked body)) (length (all_unlinked body)) t2 (standing out (Place.Code n (off + 13 + k)) d)) long through) in
        comes_wider step (suc (suc (count + 1))) (suc (suc (count + 1))) (count + 3) (count + 3) t0 t4 (omega arith) (omega arith)
        (comes_step step (suc (count + 1)) (suc (count + 1)) t0 t1 t4 compares
        (comes_step step (count + 1) (count + 1) t1 t2 t4
        (falls o n row is out (off + 7) tested Cond.B None skip at_branch (enough u.rdx bytes more fits) ∙ ap (λ k. standing out (Place.Code n k) tested) there)
        (comes_join step count count 1 1 t2 t3 t4 middle
        (comes_one step t3 t4
        (jumps o n row is out (off + 13 + size) d None again at_jump ∙ ap (λ k. standing out (Place.Code n k) d) (ap (λ k. moved k again) end ∙ agains))))))
