-- getchar does what it should, whether a byte is left or not.
use Rattle.std.proofs.Common.{◌≡◌, ℕ, ◌+◌, ◌*◌, ◌<◌, ◌≤◌, ◌⊎◌, ◌^◌, ◌%◌, Bool, true, false, if◌then◌else◌, List, [], ◌∷◌, ◌++◌, Some, refl, ◌∙◌, ap, inl, inr, arith, lit≤}
use Rattle.std.specs.Prelude.{slice_get, pos, negsuc}
use Rattle.behavior.specs.Simulation.{Comes}
use Rattle.behavior.proofs.Stretch.{comes_one, comes_join, comes_wider}
use Rattle.rd_num.specs.Number.{le_number}
use Rattle.x86_core.specs.declared.reg.Reg.TheVariants.{Rax, Rcx}
use Rattle.x86_core.specs.declared.flags.Flags.{Flags}
use Rattle.x86_core.specs.declared.image.Segment.{Segment}
use Rattle.x86_core.specs.declared.instr.Wide.{Wide}
use Rattle.x86_core.specs.declared.instr.Size.{Size}
use Rattle.x86_core.specs.declared.instr.AluOp.{AluOp}
use Rattle.x86_core.specs.declared.instr.ImmOp.{ImmOp}
use Rattle.x86_core.specs.declared.instr.Cond.{Cond}
use Rattle.x86_core.specs.declared.instr.Instr.{Instr}
use Rattle.x86_core.specs.declared.instr.Instr.TheVariants.{MovImm32, AluImm, Load, Cmov, Ret}
use Rattle.x86_core.specs.Registers.{word, with_word}
use Rattle.x86_core.specs.Arithmetic.{moved, alu_flags, alu_result, holds}
use Rattle.x86_core.specs.Data.{stack_start, stack_end}
use Rattle.x86_core.specs.Step.{State, flag_number}
use Rattle.x86_rows.specs.Addresses.{byte_at, range_at, SameShape, Written}
use Rattle.x86_rows.specs.Saving.{IsStack}
use Rattle.x86_rows.specs.Leaves.{with_regs}
use Rattle.x86_rows.specs.Straight.{Core, Through, ran, exec}
use Rattle.x86_rows.proofs.Leaves.{alu_imm, cmov, load, mov_imm32}
use Rattle.x86_rows.proofs.Rows.{exec-first}
use Rattle.x86_rows.proofs.Saving.{stack_same}
use Rattle.x86_rows.proofs.Shapes.{shape_refl}
use Rattle.obj_core.specs.declared.object.Object.{Object}
use Rattle.obj_core.specs.declared.object.Slot.{Slot}
use Rattle.obj_core.specs.declared.object.CodeAt.{CodeAt}
use Rattle.obj_core.specs.declared.object.Place.{Place}
use Rattle.obj_core.specs.Slots.{slot_start}
use Rattle.obj_core.specs.SymbolicMachine.{symbolic_step}
use Rattle.obj_rows.specs.Marked.{Marked, all_unlinked, unlinked, Stands, IsFunction}
use Rattle.obj_rows.specs.Standing.{Outside, standing}
use Rattle.obj_rows.specs.Routines.{LandsBy, IsCalled, ComesBack, IsGetchar, few_steps, taking, taken_word}
use Rattle.obj_rows.proofs.Kernel.{asks_to_take, takes, takes_none}
use Rattle.obj_rows.proofs.Runs.{row_comes}
use Rattle.rt_routines.specs.Code.{jump_to, spare_byte, ask_row, take_call, getchar_row}
use Rattle.rt_routines.proofs.Words.{Used, core_of, kept_same}
use Rattle.rt_routines.proofs.Asks.{by_name, asks, kernel_comes, comes_home, lands_same, spare, spare_below, spare_place, spare_written}

-- the flags after a comparison of rax with 0
abbrev compared : ℕ → Flags
compared a = alu_flags AluOp.Cmp 32 (a % 2 ^ 32) 0 (alu_result AluOp.Cmp 32 (a % 2 ^ 32) 0)

abbrev none_left : ℕ
none_left = 4294967295

abbrev choice : List Instr
choice = AluImm ImmOp.Cmp Wide.W32 Rax (pos 0) ∷ Load Size.W8 Rax spare_byte ∷ MovImm32 Rcx none_left ∷ Cmov Cond.E Rax Rcx ∷ []

-- the byte, or the word for none
goes_down : (w : ℕ → ℕ) (v : Used) (f : Flags) (ts : List Segment) (stack : IsStack stack_start stack_end ts) (p m : ℕ) (t : Bool) → moved v.rsp (negsuc 7) ≡ p → stack_start ≤ p → p + 1 ≤ stack_end → range_at ts p 1 ≡ m ∷ [] → holds Cond.E (compared v.rax) ≡ Some t →
    exec choice (core_of w v f ts) ≡ Through (core_of w (record v { rax = if t then none_left else m; rcx = none_left }) (compared v.rax) ts)
goes_down w v f ts stack p m t there low high range known =
    let g = compared v.rax in
    let c0 = core_of w v f ts in
    let c1 = core_of w v g ts in
    let c2 = core_of w (record v { rax = m }) g ts in
    let c3 = core_of w (record v { rax = m; rcx = none_left }) g ts in
    let same : m + 256 * 0 ≡ m = omega arith in
    let loads : ran (Load Size.W8 Rax spare_byte) c1 ≡ Through c2 =
    load c1 Size.W8 Rax spare_byte p there stack.disjoint (stack.readable p 1 low high (lit≤ tt)) ∙
    ap (λ bs. Through (core_of w (record v { rax = le_number bs }) g ts)) range ∙ ap (λ b. Through (core_of w (record v { rax = b }) g ts)) same in
    exec-first (AluImm ImmOp.Cmp Wide.W32 Rax (pos 0)) (Load Size.W8 Rax spare_byte ∷ MovImm32 Rcx none_left ∷ Cmov Cond.E Rax Rcx ∷ []) c0 c1 (alu_imm c0 ImmOp.Cmp Wide.W32 Rax (pos 0)) ∙
    exec-first (Load Size.W8 Rax spare_byte) (MovImm32 Rcx none_left ∷ Cmov Cond.E Rax Rcx ∷ []) c1 c2 loads ∙
    exec-first (MovImm32 Rcx none_left) (Cmov Cond.E Rax Rcx ∷ []) c2 c3 (mov_imm32 c2 Rcx none_left) ∙
    exec-first (Cmov Cond.E Rax Rcx) [] c3 (with_regs c3 (if t then with_word c3.regs Rax (word c3.regs Rcx) else c3.regs)) (cmov c3 Cond.E Rax Rcx t known) ∙
    chosen t
  where
    chosen : (b : Bool) → let c3 = core_of w (record v { rax = m; rcx = none_left }) (compared v.rax) ts in
        Through (with_regs c3 (if b then with_word c3.regs Rax (word c3.regs Rcx) else c3.regs)) ≡ Through (core_of w (record v { rax = if b then none_left else m; rcx = none_left }) (compared v.rax) ts)
    chosen true = refl
    chosen false = refl

module _ (o : Object) (n k : ℕ) (is : IsFunction o n (getchar_row k)) (found : slice_get o.slots k ≡ Some (Slot.System (record { function = n; offset = 28 }))) where
  abbrev front : List Marked
  front = all_unlinked (ask_row take_call)

  at_front : Stands (getchar_row k) 0 front
  at_front = record { before = []; behind = jump_to k ∷ all_unlinked (choice ++ Ret ∷ []); split = refl; offset = refl }

  at_jump : Stands (getchar_row k) 23 (jump_to k ∷ [])
  at_jump = record { before = front; behind = all_unlinked (choice ++ Ret ∷ []); split = refl; offset = refl }

  at_choice : Stands (getchar_row k) 28 (all_unlinked choice)
  at_choice = record { before = front ++ jump_to k ∷ []; behind = unlinked Ret ∷ []; split = refl; offset = refl }

  at_return : Stands (getchar_row k) 51 (unlinked Ret ∷ [])
  at_return = record { before = front ++ jump_to k ∷ all_unlinked choice; behind = []; split = refl; offset = refl }

  module _ (w : ℕ → ℕ) (u : Used) (f : Flags) (ss : List Segment) (out : Outside) (back : Place) (called : IsCalled o (core_of w u f ss) back) where
    abbrev p : ℕ
    p = spare o w u f ss back called

    low : p + 1 ≤ u.rsp
    low = let e = spare_below o w u f ss back called in omega (arith, e)

    from : stack_start ≤ p
    from = let r = called.room in omega (arith, r)

    to : p + 1 ≤ stack_end
    to = let t = called.top in omega (arith, t)

    abbrev asked : Used
    asked = record u { rsi = p; rax = 0; rdi = 0; rdx = 1 }

    abbrev answered : ℕ → Used
    answered a = record asked { rax = a; rcx = slot_start o k + 2; r11 = 514 + flag_number f.c + 64 * flag_number f.z + 128 * flag_number f.s + 2048 * flag_number f.o }

    -- whatever the kernel answers
    module _ (a m : ℕ) (t : Bool) (after : Outside) (ts : List Segment) (shape : SameShape ss ts) (outside : (q : ℕ) → (q < p) ⊎ (p + 1 ≤ q) → byte_at ts q ≡ byte_at ss q) (range : range_at ts p 1 ≡ m ∷ []) (known : holds Cond.E (compared a) ≡ Some t)
        (answers : symbolic_step o (standing out (Place.Slot k 0) (core_of w asked f ss)) ≡ standing after (Place.Slot k 2) (core_of w (answered a) f ts)) where
      abbrev last : Used
      last = record (answered a) { rax = if t then none_left else m; rcx = none_left }

      stack : IsStack stack_start stack_end ts
      stack = stack_same stack_start stack_end ss ts shape called.stack

      abbrev end : Core
      end = core_of w (record last { rsp = u.rsp + 8 }) (compared a) ts

      home : symbolic_step o (standing after (Place.Code n 51) (core_of w last (compared a) ts)) ≡ standing after back end
      home =
          let r = called.room in
          let lands : LandsBy o (core_of w last (compared a) ts) u.rsp back = lands_same o (core_of w u f ss) (core_of w last (compared a) ts) u.rsp back (λ q lo hi. outside q (inr (let l = low in omega (arith, l, lo)))) called.lands in
          comes_home o n (getchar_row k) is after 51 w last (compared a) ts back at_return stack (omega (arith, r)) called.top lands

      comes : Comes (symbolic_step o) 1 few_steps (standing out (Place.Code n 0) (core_of w u f ss)) (standing after back end)
      comes =
          let step = symbolic_step o in
          let back_at : CodeAt = record { function = n; offset = 28 } in
          let place = spare_place o w u f ss back called in
          let t0 : State Place = standing out (Place.Code n 0) (core_of w u f ss) in
          let t1 : State Place = standing out (Place.Code n 23) (core_of w asked f ss) in
          let t2 : State Place = standing after (Place.Code n 28) (core_of w (answered a) f ts) in
          let t3 : State Place = standing after (Place.Code n 51) (core_of w last (compared a) ts) in
          let t4 : State Place = standing after back end in
          let first = row_comes o n (getchar_row k) is out front 0 (core_of w u f ss) (core_of w asked f ss) at_front (asks take_call w u f ss p place) in
          let second = kernel_comes o n (getchar_row k) is k back_at out after 23 (core_of w asked f ss) (core_of w (answered a) f ts) found at_jump answers in
          let third = row_comes o n (getchar_row k) is after (all_unlinked choice) 28 (core_of w (answered a) f ts) (core_of w last (compared a) ts) at_choice (goes_down w (answered a) f ts stack p m t place from to range known) in
          comes_wider step 15 15 1 few_steps t0 t4 (lit≤ tt) (lit≤ tt)
          (comes_join step 4 4 11 11 t0 t1 t4 first (comes_join step 6 6 5 5 t1 t2 t4 second (comes_join step 4 4 1 1 t2 t3 t4 third (comes_one step t3 t4 home))))

      done : ComesBack o n few_steps (core_of w u f ss) out after back (Some (if t then none_left else m)) 0 []
      done = record {
        core = end;
        comes = comes;
        long = refl;
        kept = kept_same w u (record last { rsp = u.rsp + 8 }) refl;
        top = refl;
        answers = refl;
        shape = shape;
        range = refl;
        others = λ q away _. outside q (elim away [ inl lt ↦ inl (let r = from in omega (arith, r, lt)) | inr ge ↦ inr (let l = low in omega (arith, l, ge)) ]);
      }

    -- at the end of the input, and before it
    by_left : (left : List ℕ) → out.left ≡ left → ComesBack o n few_steps (core_of w u f ss) out (taking left out) back (Some (taken_word left)) 0 []
    by_left [] e =
        done 0 (byte_at ss p) true out ss (shape_refl ss) (λ q away. refl) refl refl
        (takes_none o out k (core_of w asked f ss) (record { function = n; offset = 28 }) found p (asks_to_take (core_of w asked f ss).regs refl refl (lit≤ tt)) refl e (spare_written o w u f ss back called 0))
    by_left (b ∷ bs) e =
        let x : Written ss p (b ∷ []) = spare_written o w u f ss back called b in
        done 1 b false (taking (b ∷ bs) out) x.segments x.shape x.outside x.range refl
        (takes o out k (core_of w asked f ss) (record { function = n; offset = 28 }) found p b bs (asks_to_take (core_of w asked f ss).regs refl refl (lit≤ tt)) refl e x)

  pub is_getchar : IsGetchar o n
  is_getchar c out back called =
      by_name (λ d. IsCalled o d back → ComesBack o n few_steps d out (taking out.left out) back (Some (taken_word out.left)) 0 [])
      (λ w u f ss h. by_left w u f ss out back h out.left refl) c called.long called
