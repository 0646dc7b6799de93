-- A step at any operation, where calls of routines are met.
use Rattle.std.proofs.Common.{◌≡◌, ℕ, List, [], ◌∷◌, length, Option, Some, Err, refl, ap, arith}
use Rattle.std.specs.Prelude.{slice_get}
use Rattle.behavior.specs.Ending as ending
use Rattle.ir_core.specs.Stops.{Answer, and_then}
use Rattle.ir_core.specs.Stops as stop
use Rattle.x86_core.specs.declared.flags.Flags.{Flags}
use Rattle.x86_core.specs.declared.image.Segment.{Segment}
use Rattle.x86_core.specs.declared.instr.Instr.TheVariants.{Ud2}
use Rattle.x86_rows.specs.Straight.{Stopped, and_on, exec}
use Rattle.x86_rows.proofs.Leaves.{ud2}
use Rattle.low_core.specs.declared.sel.Which.{Which}
use Rattle.low_core.specs.declared.sel.Which.TheVariants.{Putchar, Getchar, Exit, Memcpy, Memset}
use Rattle.low_core.specs.declared.sel.Which.TheVariants as outer
use Rattle.low_core.specs.declared.sel.SelBlock.{SelBlock}
use Rattle.low_core.specs.declared.sel.SelOp.{SelOp}
use Rattle.low_core.specs.declared.sel.SelOp.TheVariants.{Set, Copy, Alu, Div, Widen, Test, Pick, Load, Store, FrameAt, GlobalAt, FunctionAt, Call, CallAt, Outside}
use Rattle.low_core.specs.declared.sel.Sel.{Sel}
use Rattle.low_core.specs.Flat.{Flat, Bytes}
use Rattle.low_core.specs.Plan.{Plan, Content}
use Rattle.low_core.specs.SelState.{SelFrame, SelState, SelTurn, words_in}
use Rattle.low_core.specs.SelStep.{outside_turn, op_turn}
use Rattle.obj_core.specs.declared.object.Object.{Object}
use Rattle.obj_rows.specs.Marked.{Stands}
use Rattle.frame_rows.specs.Words.{Words, core_of}
use Rattle.frame_lower.specs.Chain.{function_in, code_in, rest_in}
use Rattle.frame_lower.specs.Rows.{Making}
use Rattle.frame_lower.specs.Suits.{Suits}
use Rattle.frame_lower.proofs.CallStep.{call_step, call_at_step}
use Rattle.frame_lower.proofs.Facts.{op_shaped}
use Rattle.frame_lower.proofs.OutsideCall.{IsRoutine}
use Rattle.frame_lower.proofs.PlainStep.{Turned, plain_step, stops_at}
use Rattle.frame_lower.proofs.Rests.{op_stands}
use Rattle.frame_lower.proofs.Stage.{flat_in, state_of, Whole}

module _ (o : Object) (sel : Sel) (plan : Plan) (contents : List Content) (by : ℕ → Making) (live : ℕ → ℕ → ℕ → ℕ → Type 0) (suits : Suits o sel plan contents by live) (input : List ℕ) where
  module _ (f : SelFrame) (callers : List SelFrame) (bytes : Bytes) (printed : List ℕ) (taken depth : ℕ) (w : Words) (fl : Flags) (ss : List Segment) (off : ℕ) (b : SelBlock)
      (is_function : slice_get sel.functions f.function ≡ Some (function_in sel f.function)) (is_block : slice_get (function_in sel f.function).blocks f.block ≡ Some b)
      (stands : Stands (code_in sel by f.function) off (rest_in sel by f.function off f.block f.next b)) (whole : Whole o sel plan contents by live suits input f depth callers (live f.function f.block f.next) bytes w ss) where
    abbrev s : SelState
    s = state_of f callers bytes printed taken

    abbrev flat : Flat
    flat = flat_in o sel plan contents by live suits input (f ∷ callers) bytes

    abbrev Turned_ : Answer SelTurn → Type 0
    Turned_ = Turned o sel plan contents by live suits input f callers bytes printed taken depth w fl ss off b is_function is_block stands whole

    -- the turn of an operation that is there
    abbrev Turns : SelOp → Type 0
    Turns op = slice_get b.ops f.next ≡ Some op → Turned_ (op_turn sel plan flat input s f callers op)

    -- a trap stops both runs
    trap_step : (into : Option ℕ) (args : List ℕ) → Turns (Outside outer.Trap into args)
    trap_step into args there =
        let shaped = (op_shaped o sel plan contents by live suits f.function f.block f.next _ b (Outside outer.Trap into args) is_function is_block there).fits in
        by_args args shaped.0 (stops_at o sel plan contents by live suits input f callers bytes printed taken depth w fl ss off b is_function is_block stands whole (Ud2 ∷ []) _ stop.Trap ending.Invalid
        (op_stands sel by f.function f.block f.next b (code_in sel by f.function) off stands (Outside outer.Trap into args) there) halts (omega arith) (omega arith) refl refl)
      where
        halts : exec (Ud2 ∷ []) (core_of w fl ss) ≡ Stopped ending.Invalid
        halts = ap (λ r. and_on r (exec [])) (ud2 (core_of w fl ss))

        by_args : (args : List ℕ) → length args ≡ 0 → Turned_ (Err stop.Trap) → Turned_ (and_then (words_in f.registers args) (λ ns. outside_turn flat input s f callers into outer.Trap ns))
        by_args [] none turned = turned
        by_args (a ∷ args) some turned = absurd (omega (arith, some))

    module _ (routine_step : (which : Which) (into : Option ℕ) (args : List ℕ) → IsRoutine which → Turns (Outside which into args)) where
      pub op_step : (op : SelOp) → Turns op
      op_step (Set r n) there = plain_step o sel plan contents by live suits input f callers bytes printed taken depth w fl ss off b is_function is_block stands whole (Set r n) there tt
      op_step (Copy r x) there = plain_step o sel plan contents by live suits input f callers bytes printed taken depth w fl ss off b is_function is_block stands whole (Copy r x) there tt
      op_step (Alu a wi r x y) there = plain_step o sel plan contents by live suits input f callers bytes printed taken depth w fl ss off b is_function is_block stands whole (Alu a wi r x y) there tt
      op_step (Div signed rest wi r x y) there = plain_step o sel plan contents by live suits input f callers bytes printed taken depth w fl ss off b is_function is_block stands whole (Div signed rest wi r x y) there tt
      op_step (Widen signed from to r x) there = plain_step o sel plan contents by live suits input f callers bytes printed taken depth w fl ss off b is_function is_block stands whole (Widen signed from to r x) there tt
      op_step (Test p wi r x y) there = plain_step o sel plan contents by live suits input f callers bytes printed taken depth w fl ss off b is_function is_block stands whole (Test p wi r x y) there tt
      op_step (Pick r c x y) there = plain_step o sel plan contents by live suits input f callers bytes printed taken depth w fl ss off b is_function is_block stands whole (Pick r c x y) there tt
      op_step (Load wi r x) there = plain_step o sel plan contents by live suits input f callers bytes printed taken depth w fl ss off b is_function is_block stands whole (Load wi r x) there tt
      op_step (Store wi x y) there = plain_step o sel plan contents by live suits input f callers bytes printed taken depth w fl ss off b is_function is_block stands whole (Store wi x y) there tt
      op_step (FrameAt r at) there = plain_step o sel plan contents by live suits input f callers bytes printed taken depth w fl ss off b is_function is_block stands whole (FrameAt r at) there tt
      op_step (GlobalAt r g) there = plain_step o sel plan contents by live suits input f callers bytes printed taken depth w fl ss off b is_function is_block stands whole (GlobalAt r g) there tt
      op_step (FunctionAt r g) there = plain_step o sel plan contents by live suits input f callers bytes printed taken depth w fl ss off b is_function is_block stands whole (FunctionAt r g) there tt
      op_step (Call g r args) there = call_step o sel plan contents by live suits input f callers bytes printed taken depth w fl ss off b is_function is_block stands whole g r args there
      op_step (CallAt x r args) there = call_at_step o sel plan contents by live suits input f callers bytes printed taken depth w fl ss off b is_function is_block stands whole x r args there
      op_step (Outside Putchar r args) there = routine_step Putchar r args tt there
      op_step (Outside Getchar r args) there = routine_step Getchar r args tt there
      op_step (Outside Exit r args) there = routine_step Exit r args tt there
      op_step (Outside Memcpy r args) there = routine_step Memcpy r args tt there
      op_step (Outside Memset r args) there = routine_step Memset r args tt there
      op_step (Outside outer.Trap r args) there = trap_step r args there
