-- A call of one function too many: it stops the run where the function counts its calls.
use Rattle.std.proofs.Common.{◌≡◌, ℕ, suc, ◌+◌, true, nat_le, if◌then◌else◌, List, ◌∷◌, length, drop, Option, Some, Ok, Err, refl, sym, ◌∙◌, ap, subst, inr, arith}
use Rattle.std.specs.Prelude.{slice_get, get_or}
use Rattle.std.proofs.lemmas.Bool.{le-leb}
use Rattle.std.proofs.lemmas.Option.{slice_get-get_or}
use Rattle.behavior.specs.Ending as ending
use Rattle.behavior.specs.Simulation.{Comes}
use Rattle.behavior.specs.System.{System, iter}
use Rattle.behavior.proofs.Stretch.{comes_join, comes_wider, met_by}
use Rattle.ir_core.specs.declared.TheConstants.{MAX_CALLS}
use Rattle.ir_core.specs.State.{Nothing}
use Rattle.ir_core.specs.Stops.{Answer, Depth}
use Rattle.x86_core.specs.declared.flags.Flags.{Flags}
use Rattle.x86_core.specs.declared.image.Segment.{Segment}
use Rattle.x86_core.specs.Step.{State, moment_of}
use Rattle.low_core.specs.declared.sel.SelBlock.{SelBlock}
use Rattle.low_core.specs.declared.sel.SelFun.{SelFun}
use Rattle.low_core.specs.declared.sel.Sel.{Sel}
use Rattle.low_core.specs.Flat.{Span, Bytes, forgotten}
use Rattle.low_core.specs.Plan.{Plan, Content}
use Rattle.low_core.specs.SelState.{SelFrame, SelState, SelTurn, sel_turned, first_sel_frame}
use Rattle.low_core.specs.SelStep as sel_step
use Rattle.obj_core.specs.declared.object.Object.{Object}
use Rattle.obj_core.specs.declared.object.Place.{Place}
use Rattle.obj_core.specs.SymbolicMachine.{symbolic_step}
use Rattle.obj_rows.specs.Marked.{all_unlinked, Stands}
use Rattle.obj_rows.specs.Standing.{Outside, standing, shown}
use Rattle.obj_rows.proofs.Rows.{stands_first}
use Rattle.obj_rows.proofs.Runs.{row_stops}
use Rattle.frame_rows.specs.Words.{Words, core_of}
use Rattle.frame_lower.specs.Chain.{function_in, code_in, rest_in}
use Rattle.frame_lower.specs.Rows.{Making, count_row}
use Rattle.frame_lower.specs.Suits.{Suits}
use Rattle.frame_lower.proofs.Counting.{counts_out}
use Rattle.frame_lower.proofs.Entered.{planned}
use Rattle.frame_lower.proofs.Facts.{function_shaped}
use Rattle.frame_lower.proofs.Front.{stands0}
use Rattle.frame_lower.proofs.PlainStep.{Turned}
use Rattle.frame_lower.specs.Meaning.{most_steps}
use Rattle.frame_lower.proofs.Stage.{state_of, flat_in, globals, last, Whole, Stage, A, B}

module _ (o : Object) (sel : Sel) (plan : Plan) (contents : List Content) (by : ℕ → Making) (live : ℕ → ℕ → ℕ → ℕ → Type 0) (suits : Suits o sel plan contents by live) (input : List ℕ) where
  abbrev Tells : SelFrame → ℕ → List SelFrame → (ℕ → Type 0) → Bytes → Words → List Segment → Type 0
  Tells = Whole o sel plan contents by live suits input

  abbrev A_ : System SelState
  A_ = A o sel plan contents by live suits input

  abbrev B_ : System (State Place)
  B_ = B o sel plan contents by live suits input

  abbrev Stage_ : SelState → State Place → Type 0
  Stage_ = Stage o sel plan contents by live suits input

  abbrev globals_ : List Span
  globals_ = globals o sel plan contents by live suits input

  abbrev last_ : Place
  last_ = last o sel plan contents by live suits input

  abbrev step : State Place → State Place
  step = symbolic_step o

  module _ (f : SelFrame) (callers : List SelFrame) (bytes : Bytes) (printed : List ℕ) (taken depth : ℕ) (w : Words) (fl : Flags) (ss : List Segment) (off : ℕ) (b : SelBlock)
      (is_function : slice_get sel.functions f.function ≡ Some (function_in sel f.function)) (is_block : slice_get (function_in sel f.function).blocks f.block ≡ Some b)
      (stands : Stands (code_in sel by f.function) off (rest_in sel by f.function off f.block f.next b)) (whole : Tells f depth callers (live f.function f.block f.next) bytes w ss)
      (into : Option ℕ) (g : ℕ) (is_callee : slice_get sel.functions g ≡ Some (function_in sel g)) (ns : List ℕ) (w2 : Words) (fl1 : Flags) (ss2 : List Segment) (same : w2.r15 ≡ w.r15)
      (comes : Comes step 1 200 (standing (record { left = drop taken input; printed = printed; taken = taken }) (Place.Code f.function off) (core_of w fl ss))
      (standing (record { left = drop taken input; printed = printed; taken = taken }) (Place.Code g 0) (core_of w2 fl1 ss2))) where
    abbrev s : SelState
    s = state_of f callers bytes printed taken

    abbrev out : Outside
    out = record { left = drop taken input; printed = printed; taken = taken }

    abbrev t0 : State Place
    t0 = standing out (Place.Code f.function off) (core_of w fl ss)

    abbrev t1 : State Place
    t1 = standing out (Place.Code g 0) (core_of w2 fl1 ss2)

    abbrev Turned_ : Answer SelTurn → Type 0
    Turned_ = Turned o sel plan contents by live suits input f callers bytes printed taken depth w fl ss off b is_function is_block stands whole

    abbrev callee : SelFun
    callee = function_in sel g

    -- the frame that would begin
    abbrev pub new : SelFrame
    new = first_sel_frame g callee (planned o sel plan contents by live suits g) f.base ns into

    first_block : (c : SelBlock) × (slice_get callee.blocks 0 ≡ Some c)
    first_block =
        let some = (function_shaped o sel plan contents by live suits g callee is_callee).some_block in
        (get_or callee.blocks 0 b, slice_get-get_or callee.blocks 0 b some)

    pub too_deep : depth ≡ 0 → Turned_ (sel_step.begins s f callers new)
    too_deep e =
        let active = whole.active in
        let full : nat_le MAX_CALLS (suc (length callers)) ≡ true = le-leb MAX_CALLS (suc (length callers)) (omega (arith, active, e)) in
        let fewer : w2.r15 ≡ 0 = same ∙ whole.counter ∙ e in
        let c = counts_out w2 fl1 ss2 fewer in
        let code = code_in sel by g in
        let part = all_unlinked count_row in
        let u = iter step 3 t1 in
        let m : moment_of u ≡ shown out ending.Breakpoint =
        row_stops o g code (suits.codes g callee is_callee) out part 0 (core_of w2 fl1 ss2) ending.Breakpoint
        (stands_first code 0 part _ (stands0 o sel plan contents by live suits g 0 0 out ns (live g 0 0) (flat_in o sel plan contents by live suits input (f ∷ callers) bytes) w fl ss first_block.0 is_callee first_block.1)) c.stops in
        let stop : Comes step 3 3 t1 u = record { count = 3; low = omega arith; high = omega arith; arrives = refl } in
        subst (λ q. Turned_ (if q then Err Depth else Ok (record { frames = new ∷ sel_step.past_op f ∷ callers; bytes = forgotten bytes new.own.start new.own.size; exchange = Nothing }))) (sym full)
        (inr (met_by A_ B_ Stage_ (λ _. 0) most_steps s (sel_turned s (Err Depth)) t0 u
        (comes_wider step (1 + 3) (200 + 3) 1 most_steps t0 u (omega arith) (omega arith) (comes_join step 1 200 3 3 t0 t1 u comes stop))
        (inr (refl, record { printed = ap (λ q. q.printed) (sym m); taken = ap (λ q. q.taken) (sym m); ending = ap (λ q. ending.common q.ending) (sym m) }))))
