-- The return of the first function, which ends the run.
use Rattle.std.proofs.Common.{◌≡◌, ℕ, ◌+◌, ◌%◌, ◌^◌, ◌<◌, ◌≤◌, List, [], ◌++◌, length, drop, Some, Err, refl, sym, ◌∙◌, ap, inr, arith}
use Rattle.std.specs.Prelude.{slice_get}
use Rattle.behavior.specs.Ending as ending
use Rattle.behavior.proofs.Stretch.{comes_join, comes_wider, met_by}
use Rattle.ir_core.specs.Stops.{Ended}
use Rattle.x86_core.specs.declared.flags.Flags.{Flags}
use Rattle.x86_core.specs.declared.image.Segment.{Segment}
use Rattle.x86_core.specs.declared.instr.Instr.{Instr}
use Rattle.x86_core.specs.Data.{stack_start, stack_end}
use Rattle.x86_core.specs.Step.{State, moment_of}
use Rattle.x86_rows.specs.Straight.{Through, exec}
use Rattle.low_core.specs.declared.sel.SelBlock.{SelBlock}
use Rattle.low_core.specs.declared.sel.Sel.{Sel}
use Rattle.low_core.specs.Flat.{Bytes}
use Rattle.low_core.specs.Plan.{Plan, Content}
use Rattle.low_core.specs.SelState.{SelFrame, sel_turned}
use Rattle.obj_core.specs.declared.object.Object.{Object}
use Rattle.obj_core.specs.declared.object.Place.{Place}
use Rattle.obj_core.specs.SymbolicMachine.{symbolic_step}
use Rattle.obj_rows.specs.Marked.{all_unlinked, Stands}
use Rattle.obj_rows.specs.Routines.{ComesToShow, few_steps}
use Rattle.obj_rows.specs.Standing.{Outside, standing, shown}
use Rattle.frame_rows.specs.Words.{Words, core_of}
use Rattle.frame_rows.proofs.Registers.{Same}
use Rattle.frame_lower.specs.Chain.{function_in, code_in, rest_in}
use Rattle.frame_lower.specs.Rows.{Making, leave_row}
use Rattle.frame_lower.specs.Suits.{Suits}
use Rattle.frame_lower.proofs.Leaving.{Leaves, leaves}
use Rattle.frame_lower.proofs.PlainStep.{Turned}
use Rattle.frame_lower.proofs.Returning.{return_comes}
use Rattle.frame_lower.specs.Meaning.{most_steps}
use Rattle.frame_lower.proofs.Stage.{state_of, last, Whole, Stage, A, B}

module _ (o : Object) (sel : Sel) (plan : Plan) (contents : List Content) (by : ℕ → Making) (live : ℕ → ℕ → ℕ → ℕ → Type 0) (suits : Suits o sel plan contents by live) (input : List ℕ) where
  abbrev last_ : Place
  last_ = last o sel plan contents by live suits input

  abbrev step : State Place → State Place
  step = symbolic_step o

  module _ (f : SelFrame) (bytes : Bytes) (printed : List ℕ) (taken depth : ℕ) (w : Words) (fl : Flags) (ss : List Segment) (off : ℕ) (b : SelBlock)
      (is_function : slice_get sel.functions f.function ≡ Some (function_in sel f.function)) (is_block : slice_get (function_in sel f.function).blocks f.block ≡ Some b)
      (stands : Stands (code_in sel by f.function) off (rest_in sel by f.function off f.block f.next b)) (whole : Whole o sel plan contents by live suits input f depth [] (live f.function f.block f.next) bytes w ss)
      (first : List Instr) (w1 : Words) (runs : exec first (core_of w fl ss) ≡ Through (core_of w1 fl ss)) (few : length first ≤ 1) (same : Same w w1)
      (closes : Stands (code_in sel by f.function) off (all_unlinked (first ++ leave_row (by f.function))))
      (n : ℕ) (result : w1.rax ≡ n) where
    abbrev out : Outside
    out = record { left = drop taken input; printed = printed; taken = taken }

    abbrev x : Making
    x = by f.function

    abbrev pu : ℕ
    pu = f.base + x.room

    low : stack_start ≤ f.base
    low = let r = whole.room in omega (arith, r)

    few_calls : w1.r15 < 2 ^ 32
    few_calls = let a = same.r15 in let c = whole.counter in let d = whole.active in omega (arith, a, c, d)

    left : Leaves x.order x.room w1 fl ss f.base
    left = let five = suits.five f.function in let h = whole.chain.0 in let l = low in
        leaves stack_start stack_end x.order x.room w1 fl ss f.base whole.stack (same.rsp ∙ whole.tied.at_base) few_calls (omega (arith, l)) (omega (arith, h, five))

    abbrev w5 : Words
    w5 = record left.after { rsp = pu + 48 }

    ends : ComesToShow o few_steps (standing out last_ (core_of w5 left.flags ss)) (shown out (ending.Ended (left.after.rax % 256)))
    ends = (suits.routines.start input).ends (core_of w5 left.flags ss) out refl

    pub ended : Turned o sel plan contents by live suits input f [] bytes printed taken depth w fl ss off b is_function is_block stands whole (Err (Ended (n % 256)))
    ended =
        let s = state_of f [] bytes printed taken in
        let l = low in
        let t0 = standing out (Place.Code f.function off) (core_of w fl ss) in
        let t1 = standing out last_ (core_of w5 left.flags ss) in
        let status : left.after.rax % 256 ≡ n % 256 = ap (λ m. m % 256) (left.result ∙ result) in
        let m : moment_of ends.state ≡ shown out (ending.Ended (n % 256)) = ends.shown_there ∙ ap (λ k. shown out (ending.Ended k)) status in
        inr (met_by (A o sel plan contents by live suits input) (B o sel plan contents by live suits input) (Stage o sel plan contents by live suits input) (λ _. 0) most_steps s (sel_turned s (Err (Ended (n % 256)))) t0 ends.state
        (comes_wider step (1 + 1) (20 + few_steps) 1 most_steps t0 ends.state (omega arith) (omega arith)
        (comes_join step 1 20 1 few_steps t0 t1 ends.state
        (return_comes o f.function (code_in sel by f.function) (suits.codes f.function _ is_function) out x (suits.five f.function) first off f.base w w1 fl ss last_ closes few runs whole.stack (same.rsp ∙ whole.tied.at_base) l
        whole.chain.0 few_calls whole.chain.1 left)
        ends.comes))
        (inr (refl, record { printed = ap (λ q. q.printed) (sym m); taken = ap (λ q. q.taken) (sym m); ending = ap (λ q. ending.common q.ending) (sym m) })))
