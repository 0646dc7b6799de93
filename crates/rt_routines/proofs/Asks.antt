-- Parts that routines share: a question to the kernel by a slot, the spare byte on the stack, and the way back.
use Rattle.std.proofs.Common.{◌≡◌, ℕ, ◌+◌, ◌-◌, ◌<◌, ◌≤◌, List, [], ◌∷◌, length, Some, refl, sym, ◌∙◌, ap, subst, arith, lit≤}
use Rattle.std.specs.Prelude.{slice_get, slice_index, pos, negsuc}
use Rattle.behavior.specs.Simulation.{Comes}
use Rattle.behavior.proofs.Stretch.{comes_step}
use Rattle.x86_core.specs.declared.flags.Flags.{Flags}
use Rattle.x86_core.specs.declared.image.Segment.{Segment}
use Rattle.x86_core.specs.declared.instr.Instr.TheVariants.{Ret}
use Rattle.x86_core.specs.Arithmetic.{moved}
use Rattle.x86_core.specs.Data.{stack_start, stack_end}
use Rattle.x86_core.specs.Effect.{effect_of}
use Rattle.x86_core.specs.Step.{State}
use Rattle.x86_rows.specs.Addresses.{byte_at, Written}
use Rattle.x86_rows.specs.Saving.{IsStack}
use Rattle.x86_rows.specs.Straight.{Core, Through, exec}
use Rattle.x86_rows.proofs.Covers.{range_same}
use Rattle.x86_rows.proofs.Writing.{write_range}
use Rattle.obj_core.specs.declared.object.Object.{Object}
use Rattle.obj_core.specs.declared.object.Slot.{Slot}
use Rattle.obj_core.specs.declared.object.CodeAt.{CodeAt}
use Rattle.obj_core.specs.declared.object.Place.{Place}
use Rattle.obj_core.specs.SymbolicMachine.{at_code, symbolic_step}
use Rattle.obj_rows.specs.Marked.{Marked, unlinked, Stands, IsFunction}
use Rattle.obj_rows.specs.Standing.{Outside, standing}
use Rattle.obj_rows.specs.Routines.{LandsBy, IsCalled}
use Rattle.obj_rows.proofs.Branches.{jumps, returns}
use Rattle.obj_rows.proofs.Slots.{system_returns}
use Rattle.rt_routines.specs.Code.{jump_to, ask_row}
use Rattle.rt_routines.proofs.Words.{Used, core_of, regs_are, used_of, eight_below, eight_above}

-- what holds of named words holds of every sixteen
pub by_name : (P : Core → Type 0) → ((w : ℕ → ℕ) (u : Used) (f : Flags) (ss : List Segment) → P (core_of w u f ss)) → (c : Core) → length c.regs ≡ 16 → P c
by_name P all c long =
    let named = core_of (slice_index c.regs) (used_of c.regs) c.flags c.segments in
    let e : named ≡ c = ap (λ (l : List ℕ). record c { regs = l }) (sym (regs_are c.regs long)) in
    subst P e (all (slice_index c.regs) (used_of c.regs) c.flags c.segments)

-- the question: the place of the spare byte, a call of the kernel, and one byte
pub asks : (call : ℕ) (w : ℕ → ℕ) (u : Used) (f : Flags) (ss : List Segment) (p : ℕ) → moved u.rsp (negsuc 7) ≡ p →
    exec (ask_row call) (core_of w u f ss) ≡ Through (core_of w (record u { rsi = p; rax = call; rdi = call; rdx = 1 }) f ss)
unfolding effect_of
asks call w u f ss p there = ap (λ a. Through (core_of w (record u { rsi = a; rax = call; rdi = call; rdx = 1 }) f ss)) there

module _ (o : Object) (n : ℕ) (row : List Marked) (is : IsFunction o n row) where
  -- a jump to a slot that asks the kernel, which goes on, and the way back
  pub kernel_comes : (k : ℕ) (back : CodeAt) (out out2 : Outside) (off : ℕ) (c c2 : Core) → slice_get o.slots k ≡ Some (Slot.System back) → Stands row off (jump_to k ∷ []) →
      symbolic_step o (standing out (Place.Slot k 0) c) ≡ standing out2 (Place.Slot k 2) c2 → Comes (symbolic_step o) 6 6 (standing out (Place.Code n off) c) (standing out2 (at_code back) c2)
  kernel_comes k back out out2 off c c2 found stands answers =
      let step = symbolic_step o in
      let t1 : State Place = standing out (Place.Code n off) c in
      let t2 : State Place = standing out (Place.Slot k 0) c in
      let t3 : State Place = standing out2 (Place.Slot k 2) c2 in
      let t4 : State Place = standing out2 (at_code back) c2 in
      comes_step step 5 5 t1 t2 t4 (jumps o n row is out off c (Some k) (pos 0) stands)
      (comes_step step 4 4 t2 t3 t4 answers (record { count = 4; low = omega arith; high = omega arith; arrives = system_returns o out2 k c2 back found }))

  -- a return takes the word off the stack
  pub comes_home : (out : Outside) (off : ℕ) (w : ℕ → ℕ) (u : Used) (f : Flags) (ss : List Segment) (back : Place) → Stands row off (unlinked Ret ∷ []) → IsStack stack_start stack_end ss → stack_start ≤ u.rsp → u.rsp + 8 ≤ stack_end →
      LandsBy o (core_of w u f ss) u.rsp back → symbolic_step o (standing out (Place.Code n off) (core_of w u f ss)) ≡ standing out back (core_of w (record u { rsp = u.rsp + 8 }) f ss)
  comes_home out off w u f ss back stands stack low high lands =
      let up : moved u.rsp (pos 8) ≡ u.rsp + 8 = let h = stack.below in eight_above u.rsp (omega (arith, h, high)) in
      returns o n row is out off (core_of w u f ss) _ u.rsp lands.landing back stands refl stack.disjoint (stack.readable u.rsp 8 low high (lit≤ tt)) lands.there lands.small lands.lands ∙
      ap (λ (k : ℕ). standing out back (core_of w (record u { rsp = k }) f ss)) up

-- the word on the stack is there still where no byte of it changed
pub lands_same : (o : Object) (c d : Core) (at : ℕ) (back : Place) → ((q : ℕ) → at ≤ q → q < at + 8 → byte_at d.segments q ≡ byte_at c.segments q) → LandsBy o c at back → LandsBy o d at back
lands_same o c d at back same x = record { landing = x.landing; small = x.small; there = range_same d.segments c.segments 8 at same ∙ x.there; lands = x.lands }

-- eight bytes below the top of the stack
module _ (o : Object) (w : ℕ → ℕ) (u : Used) (f : Flags) (ss : List Segment) (back : Place) (called : IsCalled o (core_of w u f ss) back) where
  abbrev pub spare : ℕ
  spare = u.rsp - 8

  pub spare_below : spare + 8 ≡ u.rsp
  spare_below = let h = called.room in omega (arith, h)

  pub spare_place : moved u.rsp (negsuc 7) ≡ spare
  spare_place = let h = called.stack.below in let t = called.top in eight_below spare u.rsp spare_below (omega (arith, h, t))

  -- a byte is put there
  pub spare_written : (b : ℕ) → Written ss spare (b ∷ [])
  spare_written b = let r = called.room in let t = called.top in write_range ss spare (b ∷ []) called.stack.disjoint (lit≤ tt) (called.stack.writable spare 1 (omega (arith, r)) (omega (arith, t)) (lit≤ tt))
