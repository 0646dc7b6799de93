-- The start does what it should.
use Rattle.std.proofs.Common.{◌≡◌, ℕ, ◌+◌, ◌-◌, ◌≤◌, ◌^◌, ◌%◌, List, [], ◌∷◌, ◌++◌, length, Some, refl, ◌∙◌, ap, inl, inr, arith, lit≤}
use Rattle.std.specs.Prelude.{slice_get, pos}
use Rattle.behavior.specs.Ending.{Ended}
use Rattle.behavior.specs.Simulation.{Comes}
use Rattle.behavior.proofs.Stretch.{comes_one, comes_step, comes_join, comes_wider}
use Rattle.rd_num.specs.Number.{le_bytes}
use Rattle.ir_core.specs.declared.TheConstants.{MAX_CALLS}
use Rattle.x86_core.specs.declared.reg.Reg.TheVariants.{Rax, Rsi, Rdi, R15}
use Rattle.x86_core.specs.declared.flags.Flags.{Flags}
use Rattle.x86_core.specs.declared.image.Segment.{Segment}
use Rattle.x86_core.specs.declared.instr.Wide.{Wide}
use Rattle.x86_core.specs.declared.instr.Instr.TheVariants.{Mov, MovImm32, Ud2}
use Rattle.x86_core.specs.Data.{stack_start, stack_end}
use Rattle.x86_core.specs.Effect.{effect_of}
use Rattle.x86_core.specs.Registers.{word}
use Rattle.x86_core.specs.Step.{State}
use Rattle.x86_rows.specs.Addresses.{Written}
use Rattle.x86_rows.specs.Saving.{IsStack}
use Rattle.x86_rows.specs.Straight.{Core, Through, exec}
use Rattle.x86_rows.proofs.Leaves.{mov}
use Rattle.x86_rows.proofs.Writing.{write_range}
use Rattle.obj_core.specs.declared.object.Object.{Object}
use Rattle.obj_core.specs.declared.object.Slot.{Slot}
use Rattle.obj_core.specs.declared.object.Place.{Place}
use Rattle.obj_core.specs.Slots.{slot_start}
use Rattle.obj_core.specs.SymbolicMachine.{symbolic_start, symbolic_step}
use Rattle.obj_core.specs.WellFormed.{most_data}
use Rattle.obj_rows.specs.Marked.{Marked, all_unlinked, unlinked, instrs_of, Stands, IsFunction}
use Rattle.obj_rows.specs.Standing.{Outside, standing, shown, first_core, first_outside}
use Rattle.obj_rows.specs.Routines.{ComesToShow, IsStart, few_steps}
use Rattle.obj_rows.proofs.Branches.{jumps}
use Rattle.obj_rows.proofs.Runs.{row_comes, step_through}
use Rattle.obj_rows.proofs.Slots.{entry_goes, call_goes, call_returns}
use Rattle.obj_rows.proofs.Start.{starts_with_stack}
use Rattle.obj_rows.proofs.Words.{back_lands, slot_below, found_within}
use Rattle.rt_routines.specs.Code.{jump_to, exit_call, start_row}
use Rattle.rt_routines.proofs.Words.{Used, core_of}
use Rattle.rt_routines.proofs.Asks.{by_name}
use Rattle.rt_routines.proofs.Exit.{ends_by}

module _ (o : Object) (n main k j : ℕ) (is : IsFunction o n (start_row k j)) (entry : slice_get o.slots 0 ≡ Some (Slot.Entry n)) (found : slice_get o.slots k ≡ Some (Slot.Call main (record { function = n; offset = 21 })))
    (ends : slice_get o.slots j ≡ Some (Slot.System (record { function = n; offset = 34 }))) (few : length o.slots ≤ 1048576) (data_few : length o.ro + length o.rw ≤ most_data) where
  abbrev front : List Marked
  front = all_unlinked (MovImm32 R15 MAX_CALLS ∷ MovImm32 Rdi 0 ∷ MovImm32 Rsi 0 ∷ [])

  abbrev behind : List Marked
  behind = unlinked (Mov Wide.W64 Rdi Rax) ∷ unlinked (MovImm32 Rax exit_call) ∷ jump_to j ∷ unlinked Ud2 ∷ []

  at_front : Stands (start_row k j) 0 front
  at_front = record { before = []; behind = jump_to k ∷ behind; split = refl; offset = refl }

  at_call : Stands (start_row k j) 16 (jump_to k ∷ [])
  at_call = record { before = front; behind = behind; split = refl; offset = refl }

  at_move : Stands (start_row k j) 21 (unlinked (Mov Wide.W64 Rdi Rax) ∷ [])
  at_move = record { before = front ++ jump_to k ∷ []; behind = unlinked (MovImm32 Rax exit_call) ∷ jump_to j ∷ unlinked Ud2 ∷ []; split = refl; offset = refl }

  at_number : Stands (start_row k j) 24 (unlinked (MovImm32 Rax exit_call) ∷ [])
  at_number = record { before = front ++ jump_to k ∷ unlinked (Mov Wide.W64 Rdi Rax) ∷ []; behind = jump_to j ∷ unlinked Ud2 ∷ []; split = refl; offset = refl }

  at_exit : Stands (start_row k j) 29 (jump_to j ∷ [])
  at_exit = record { before = front ++ jump_to k ∷ unlinked (Mov Wide.W64 Rdi Rax) ∷ unlinked (MovImm32 Rax exit_call) ∷ []; behind = unlinked Ud2 ∷ []; split = refl; offset = refl }

  -- registers as a run begins, and as `main` is called
  abbrev first : Used
  first = record { rax = 0; rcx = 0; rdx = 0; rsp = stack_end; rsi = 0; rdi = 0; r11 = 0; r15 = 0 }

  abbrev flags : Flags
  flags = (first_core o).flags

  abbrev ss : List Segment
  ss = (first_core o).segments

  abbrev zeros : ℕ → ℕ
  zeros i = 0

  abbrev ready : Used
  ready = record first { r15 = MAX_CALLS }

  abbrev top : ℕ
  top = stack_end - 8

  abbrev landing : ℕ
  landing = slot_start o k + 5

  stack : IsStack stack_start stack_end ss
  stack = starts_with_stack o data_few

  x : Written ss top (le_bytes 8 landing)
  x = write_range ss top (le_bytes 8 landing) stack.disjoint (lit≤ tt) (stack.writable top 8 (lit≤ tt) (lit≤ tt) (lit≤ tt))

  abbrev called : Core
  called = core_of zeros (record ready { rsp = top }) flags x.segments

  readies : exec (instrs_of front) (first_core o) ≡ Through (core_of zeros ready flags ss)
  unfolding effect_of
  readies = refl

  comes : (input : List ℕ) → Comes (symbolic_step o) 1 few_steps (symbolic_start o input) (standing (first_outside input) (Place.Code main 0) called)
  comes input =
      let step = symbolic_step o in
      let out = first_outside input in
      let t0 : State Place = standing out (Place.Slot 0 0) (first_core o) in
      let t1 : State Place = standing out (Place.Code n 0) (first_core o) in
      let t2 : State Place = standing out (Place.Code n 16) (core_of zeros ready flags ss) in
      let t3 : State Place = standing out (Place.Slot k 0) (core_of zeros ready flags ss) in
      let t4 : State Place = standing out (Place.Code main 0) called in
      comes_wider step 6 6 1 few_steps t0 t4 (lit≤ tt) (lit≤ tt)
      (comes_step step 5 5 t0 t1 t4 (entry_goes o out 0 (first_core o) n entry)
      (comes_join step 3 3 2 2 t1 t2 t4 (row_comes o n (start_row k j) is out front 0 (first_core o) (core_of zeros ready flags ss) at_front readies)
      (comes_step step 1 1 t2 t3 t4 (jumps o n (start_row k j) is out 16 (core_of zeros ready flags ss) (Some k) (pos 0) at_call)
      (comes_one step t3 t4 (call_goes o out k (core_of zeros ready flags ss) main (record { function = n; offset = 21 }) top found refl x)))))

  -- behind the call the run ends with what `main` gave
  ends_named : (w : ℕ → ℕ) (u : Used) (f : Flags) (ts : List Segment) (out : Outside) → ComesToShow o few_steps (standing out (Place.Slot k 5) (core_of w u f ts)) (shown out (Ended (u.rax % 256)))
  ends_named w u f ts out =
      let step = symbolic_step o in
      let c = core_of w u f ts in
      let d = core_of w (record u { rdi = u.rax % 2 ^ 64 }) f ts in
      let y = ends_by o n (start_row k j) is j (record { function = n; offset = 34 }) 24 ends at_number at_exit w (record u { rdi = u.rax % 2 ^ 64 }) f ts out in
      let t0 : State Place = standing out (Place.Slot k 5) c in
      let t1 : State Place = standing out (Place.Code n 21) c in
      let t2 : State Place = standing out (Place.Code n 24) d in
      let same : u.rax % 2 ^ 64 % 256 ≡ u.rax % 256 = omega arith in
      record {
        state = y.state;
        comes =
            comes_wider step 3 5 1 few_steps t0 y.state (lit≤ tt) (lit≤ tt)
            (comes_step step 2 4 t0 t1 y.state (call_returns o out k c main (record { function = n; offset = 21 }) found)
            (comes_step step 1 3 t1 t2 y.state (step_through o n (start_row k j) is out 21 (unlinked (Mov Wide.W64 Rdi Rax)) c d at_move (mov c Wide.W64 Rdi Rax)) y.comes));
        shown_there = y.shown_there ∙ ap (λ s. shown out (Ended s)) same;
      }

  pub is_start : (input : List ℕ) → IsStart o main MAX_CALLS input
  is_start input = record {
    core = called;
    back = Place.Slot k 5;
    comes = comes input;
    long = refl;
    first_argument = refl;
    second_argument = refl;
    calls_left = refl;
    top = refl;
    lands = let within = found_within o.slots k (Slot.Call main (record { function = n; offset = 21 })) found in record { landing = landing; small = slot_below o k within few; there = x.range; lands = back_lands o k within };
    shape = x.shape;
    others = λ q away. x.outside q (elim away [ inl lt ↦ inl (omega (arith, lt)) | inr ge ↦ inr (omega (arith, ge)) ]);
    ends = λ c out long. by_name (λ d. ComesToShow o few_steps (standing out (Place.Slot k 5) d) (shown out (Ended (word d.regs Rax % 256)))) (λ w u f ts. ends_named w u f ts out) c long;
  }
