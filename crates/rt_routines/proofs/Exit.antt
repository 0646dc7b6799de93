-- exit ends the run.
use Rattle.std.proofs.Common.{◌≡◌, ℕ, ◌+◌, ◌%◌, List, [], ◌∷◌, Some, refl, lit≤}
use Rattle.std.specs.Prelude.{slice_get, pos}
use Rattle.behavior.specs.Ending.{Ended}
use Rattle.behavior.proofs.Stretch.{comes_one, comes_step, comes_wider}
use Rattle.x86_core.specs.declared.reg.Reg.TheVariants.{Rax, Rdi}
use Rattle.x86_core.specs.declared.flags.Flags.{Flags}
use Rattle.x86_core.specs.declared.image.Segment.{Segment}
use Rattle.x86_core.specs.declared.instr.Instr.TheVariants.{MovImm32, Ud2}
use Rattle.x86_core.specs.Step.{State}
use Rattle.x86_core.specs.Registers.{word}
use Rattle.x86_rows.proofs.Leaves.{mov_imm32}
use Rattle.obj_core.specs.declared.object.Object.{Object}
use Rattle.obj_core.specs.declared.object.Slot.{Slot}
use Rattle.obj_core.specs.declared.object.CodeAt.{CodeAt}
use Rattle.obj_core.specs.declared.object.Place.{Place}
use Rattle.obj_core.specs.SymbolicMachine.{symbolic_step}
use Rattle.obj_rows.specs.Marked.{Marked, unlinked, Stands, IsFunction}
use Rattle.obj_rows.specs.Standing.{Outside, standing, shown}
use Rattle.obj_rows.specs.Routines.{ComesToShow, IsExit, few_steps}
use Rattle.obj_rows.proofs.Branches.{jumps}
use Rattle.obj_rows.proofs.Kernel.{asks_to_exit, exits}
use Rattle.obj_rows.proofs.Runs.{step_through}
use Rattle.rt_routines.specs.Code.{jump_to, exit_call, exit_row}
use Rattle.rt_routines.proofs.Words.{Used, core_of}
use Rattle.rt_routines.proofs.Asks.{by_name}

-- the number of the call, a jump to the kernel's slot, and there the run ends
pub ends_by : (o : Object) (n : ℕ) (row : List Marked) (is : IsFunction o n row) (k : ℕ) (back : CodeAt) (off : ℕ) → slice_get o.slots k ≡ Some (Slot.System back) → Stands row off (unlinked (MovImm32 Rax exit_call) ∷ []) → Stands row (off + 5) (jump_to k ∷ []) →
    (w : ℕ → ℕ) (u : Used) (f : Flags) (ss : List Segment) (out : Outside) → ComesToShow o 3 (standing out (Place.Code n off) (core_of w u f ss)) (shown out (Ended (u.rdi % 256)))
ends_by o n row is k back off found at_number at_jump w u f ss out =
    let step = symbolic_step o in
    let c1 = core_of w (record u { rax = exit_call }) f ss in
    let t0 : State Place = standing out (Place.Code n off) (core_of w u f ss) in
    let t1 : State Place = standing out (Place.Code n (off + 5)) c1 in
    let t2 : State Place = standing out (Place.Slot k 0) c1 in
    let t3 : State Place = record t2 { ending = Ended (u.rdi % 256) } in
    record {
      state = t3;
      comes =
          comes_wider step 3 3 1 3 t0 t3 (lit≤ tt) (lit≤ tt)
          (comes_step step 2 2 t0 t1 t3 (step_through o n row is out off (unlinked (MovImm32 Rax exit_call)) (core_of w u f ss) c1 at_number (mov_imm32 (core_of w u f ss) Rax exit_call))
          (comes_step step 1 1 t1 t2 t3 (jumps o n row is out (off + 5) c1 (Some k) (pos 0) at_jump)
          (comes_one step t2 t3 (exits o out k c1 back found (asks_to_exit c1.regs refl)))));
      shown_there = refl;
    }

pub is_exit : (o : Object) (n k : ℕ) (is : IsFunction o n (exit_row k)) → slice_get o.slots k ≡ Some (Slot.System (record { function = n; offset = 10 })) → IsExit o n
is_exit o n k is found c out long =
    by_name (λ d. ComesToShow o few_steps (standing out (Place.Code n 0) d) (shown out (Ended (word d.regs Rdi % 256))))
    (λ w u f ss.
    let x = ends_by o n (exit_row k) is k (record { function = n; offset = 10 }) 0 found at_number at_jump w u f ss out in
    record { state = x.state; comes = comes_wider (symbolic_step o) 1 3 1 few_steps (standing out (Place.Code n 0) (core_of w u f ss)) x.state (lit≤ tt) (lit≤ tt) x.comes; shown_there = x.shown_there })
    c long
  where
    at_number : Stands (exit_row k) 0 (unlinked (MovImm32 Rax exit_call) ∷ [])
    at_number = record { before = []; behind = jump_to k ∷ unlinked Ud2 ∷ []; split = refl; offset = refl }

    at_jump : Stands (exit_row k) 5 (jump_to k ∷ [])
    at_jump = record { before = unlinked (MovImm32 Rax exit_call) ∷ []; behind = unlinked Ud2 ∷ []; split = refl; offset = refl }
