-- putchar does what it should.
use Rattle.std.proofs.Common.{◌≡◌, ℕ, ◌+◌, ◌*◌, ◌≤◌, ◌%◌, List, [], ◌∷◌, ◌++◌, Some, refl, ◌∙◌, ap, inl, inr, arith, lit≤}
use Rattle.std.specs.Prelude.{slice_get, slice_index}
use Rattle.behavior.specs.Simulation.{Comes}
use Rattle.behavior.proofs.Stretch.{comes_one, comes_join, comes_wider}
use Rattle.rd_num.specs.Number.{le_number}
use Rattle.x86_core.specs.declared.reg.Reg.TheVariants.{Rax, Rdi}
use Rattle.x86_core.specs.declared.flags.Flags.{Flags}
use Rattle.x86_core.specs.declared.image.Segment.{Segment}
use Rattle.x86_core.specs.Memory.{write_at}
use Rattle.x86_core.specs.declared.instr.Size.{Size}
use Rattle.x86_core.specs.declared.instr.Instr.TheVariants.{Load, Store, Ret}
use Rattle.x86_core.specs.Data.{stack_start, stack_end}
use Rattle.x86_core.specs.Step.{State, flag_number}
use Rattle.x86_rows.specs.Addresses.{Written}
use Rattle.x86_rows.specs.Saving.{IsStack}
use Rattle.x86_rows.specs.Straight.{Through, ran, exec}
use Rattle.x86_rows.proofs.Leaves.{load, store_by}
use Rattle.x86_rows.proofs.Rows.{exec-first}
use Rattle.x86_rows.proofs.Saving.{stack_same}
use Rattle.obj_core.specs.declared.object.Object.{Object}
use Rattle.obj_core.specs.declared.object.Slot.{Slot}
use Rattle.obj_core.specs.declared.object.CodeAt.{CodeAt}
use Rattle.obj_core.specs.declared.object.Place.{Place}
use Rattle.obj_core.specs.Slots.{slot_start}
use Rattle.obj_core.specs.SymbolicMachine.{symbolic_step}
use Rattle.obj_rows.specs.Marked.{Marked, all_unlinked, unlinked, Stands, IsFunction}
use Rattle.obj_rows.specs.Standing.{Outside, standing}
use Rattle.obj_rows.specs.Routines.{LandsBy, IsCalled, ComesBack, IsPutchar, few_steps}
use Rattle.obj_rows.proofs.Kernel.{asks_to_print, prints}
use Rattle.obj_rows.proofs.Runs.{row_comes}
use Rattle.rt_routines.specs.Code.{jump_to, spare_byte, ask_row, print_call, putchar_row}
use Rattle.rt_routines.proofs.Words.{Used, core_of, kept_same}
use Rattle.rt_routines.proofs.Asks.{by_name, asks, kernel_comes, comes_home, lands_same, spare, spare_below, spare_place, spare_written}

module _ (o : Object) (n k : ℕ) (is : IsFunction o n (putchar_row k)) (found : slice_get o.slots k ≡ Some (Slot.System (record { function = n; offset = 36 }))) where
  abbrev front : List Marked
  front = all_unlinked (Store Size.W8 spare_byte Rdi ∷ ask_row print_call)

  at_front : Stands (putchar_row k) 0 front
  at_front = record { before = []; behind = jump_to k ∷ unlinked (Load Size.W8 Rax spare_byte) ∷ unlinked Ret ∷ []; split = refl; offset = refl }

  at_jump : Stands (putchar_row k) 31 (jump_to k ∷ [])
  at_jump = record { before = front; behind = unlinked (Load Size.W8 Rax spare_byte) ∷ unlinked Ret ∷ []; split = refl; offset = refl }

  at_load : Stands (putchar_row k) 36 (unlinked (Load Size.W8 Rax spare_byte) ∷ [])
  at_load = record { before = front ++ jump_to k ∷ []; behind = unlinked Ret ∷ []; split = refl; offset = refl }

  at_return : Stands (putchar_row k) 44 (unlinked Ret ∷ [])
  at_return = record { before = front ++ jump_to k ∷ unlinked (Load Size.W8 Rax spare_byte) ∷ []; behind = []; split = refl; offset = refl }

  module _ (w : ℕ → ℕ) (u : Used) (f : Flags) (ss : List Segment) (out : Outside) (back : Place) (called : IsCalled o (core_of w u f ss) back) where
    abbrev p : ℕ
    p = spare o w u f ss back called

    abbrev byte : ℕ
    byte = u.rdi % 256

    x : Written ss p (byte ∷ [])
    x = spare_written o w u f ss back called byte

    stack : IsStack stack_start stack_end x.segments
    stack = stack_same stack_start stack_end ss x.segments x.shape called.stack

    -- what is printed
    low : p + 1 ≤ u.rsp
    low = let e = spare_below o w u f ss back called in omega (arith, e)

    abbrev asked : Used
    asked = record u { rsi = p; rax = 1; rdi = 1; rdx = 1 }

    abbrev answered : Used
    answered = record asked { rcx = slot_start o k + 2; r11 = 514 + flag_number f.c + 64 * flag_number f.z + 128 * flag_number f.s + 2048 * flag_number f.o }

    abbrev after : Outside
    after = record out { printed = out.printed ++ byte ∷ [] }

    -- up to the jump
    stores : ran (Store Size.W8 spare_byte Rdi) (core_of w u f ss) ≡ Through (core_of w u f x.segments)
    stores =
        let same : byte % 256 ≡ byte = omega arith in
        store_by (core_of w u f ss) Size.W8 spare_byte Rdi p byte x.segments (spare_place o w u f ss back called) refl (ap (λ b. write_at ss p (b ∷ [])) same ∙ x.gives)

    goes_up : exec (Store Size.W8 spare_byte Rdi ∷ ask_row print_call) (core_of w u f ss) ≡ Through (core_of w asked f x.segments)
    goes_up = exec-first (Store Size.W8 spare_byte Rdi) (ask_row print_call) (core_of w u f ss) (core_of w u f x.segments) stores ∙ asks print_call w u f x.segments p (spare_place o w u f ss back called)

    -- the kernel's answer
    answers : symbolic_step o (standing out (Place.Slot k 0) (core_of w asked f x.segments)) ≡ standing after (Place.Slot k 2) (core_of w answered f x.segments)
    answers =
        let r = called.room in
        let one = stack.readable p 1 (omega (arith, r)) (let t = called.top in omega (arith, t)) (lit≤ tt) in
        prints o out k (core_of w asked f x.segments) (record { function = n; offset = 36 }) found 1 p (asks_to_print (core_of w asked f x.segments).regs 1 refl refl refl (lit≤ tt) (lit≤ tt)) refl stack.disjoint (lit≤ tt) one ∙
        ap (λ bs. standing (record out { printed = out.printed ++ bs }) (Place.Slot k 2) (core_of w answered f x.segments)) x.range

    -- the byte is the answer
    loads : ran (Load Size.W8 Rax spare_byte) (core_of w answered f x.segments) ≡ Through (core_of w (record answered { rax = byte }) f x.segments)
    loads =
        let r = called.room in
        let one = stack.readable p 1 (omega (arith, r)) (let t = called.top in omega (arith, t)) (lit≤ tt) in
        let c = core_of w answered f x.segments in
        let same : byte + 256 * 0 ≡ byte = omega arith in
        load c Size.W8 Rax spare_byte p (spare_place o w u f ss back called) stack.disjoint one ∙
        ap (λ bs. Through (core_of w (record answered { rax = le_number bs }) f x.segments)) x.range ∙
        ap (λ b. Through (core_of w (record answered { rax = b }) f x.segments)) same

    abbrev last : Used
    last = record answered { rax = byte }

    lands : LandsBy o (core_of w last f x.segments) u.rsp back
    lands = lands_same o (core_of w u f ss) (core_of w last f x.segments) u.rsp back (λ q lo hi. x.outside q (inr (let l = low in omega (arith, l, lo)))) called.lands

    home : symbolic_step o (standing after (Place.Code n 44) (core_of w last f x.segments)) ≡ standing after back (core_of w (record last { rsp = u.rsp + 8 }) f x.segments)
    home = let r = called.room in comes_home o n (putchar_row k) is after 44 w last f x.segments back at_return stack (omega (arith, r)) called.top lands

    comes : Comes (symbolic_step o) 1 few_steps (standing out (Place.Code n 0) (core_of w u f ss)) (standing after back (core_of w (record last { rsp = u.rsp + 8 }) f x.segments))
    comes =
        let step = symbolic_step o in
        let back_at : CodeAt = record { function = n; offset = 36 } in
        let t0 : State Place = standing out (Place.Code n 0) (core_of w u f ss) in
        let t1 : State Place = standing out (Place.Code n 31) (core_of w asked f x.segments) in
        let t2 : State Place = standing after (Place.Code n 36) (core_of w answered f x.segments) in
        let t3 : State Place = standing after (Place.Code n 44) (core_of w last f x.segments) in
        let t4 : State Place = standing after back (core_of w (record last { rsp = u.rsp + 8 }) f x.segments) in
        let first = row_comes o n (putchar_row k) is out front 0 (core_of w u f ss) (core_of w asked f x.segments) at_front goes_up in
        let second = kernel_comes o n (putchar_row k) is k back_at out after 31 (core_of w asked f x.segments) (core_of w answered f x.segments) found at_jump answers in
        let third = row_comes o n (putchar_row k) is after (unlinked (Load Size.W8 Rax spare_byte) ∷ []) 36 (core_of w answered f x.segments) (core_of w last f x.segments) at_load (exec-first (Load Size.W8 Rax spare_byte) [] (core_of w answered f x.segments) (core_of w last f x.segments) loads) in
        comes_wider step 13 13 1 few_steps t0 t4 (lit≤ tt) (lit≤ tt)
        (comes_join step 5 5 8 8 t0 t1 t4 first (comes_join step 6 6 2 2 t1 t2 t4 second (comes_join step 1 1 1 1 t2 t3 t4 third (comes_one step t3 t4 home))))

    done : ComesBack o n few_steps (core_of w u f ss) out after back (Some byte) 0 []
    done = record {
      core = core_of w (record last { rsp = u.rsp + 8 }) f x.segments;
      comes = comes;
      long = refl;
      kept = kept_same w u (record last { rsp = u.rsp + 8 }) refl;
      top = refl;
      answers = refl;
      shape = x.shape;
      range = refl;
      others = λ q away _. x.outside q (elim away [ inl lt ↦ inl (let r = called.room in omega (arith, r, lt)) | inr ge ↦ inr (let l = low in omega (arith, l, ge)) ]);
    }

  pub is_putchar : IsPutchar o n
  is_putchar c out back called =
      by_name (λ d. IsCalled o d back → let b = slice_index d.regs 7 % 256 in ComesBack o n few_steps d out (record out { printed = out.printed ++ b ∷ [] }) back (Some b) 0 [])
      (λ w u f ss h. done w u f ss out back h) c called.long called
