-- A step that is no call: the row of the operation is passed, or stops as it does.
use Rattle.std.proofs.Common.{◌≡◌, ℕ, ◌+◌, ◌*◌, ◌≤◌, List, ◌∷◌, ◌++◌, length, drop, take, Option, Some, Err, refl, sym, ◌∙◌, ap, subst, inl, inr, ◌⊎◌, false, arith}
use Rattle.std.specs.Prelude.{slice_get}
use Rattle.behavior.specs.Ending.{Ending, is_left}
use Rattle.behavior.specs.Ending as ending
use Rattle.behavior.specs.Moment.{IsLeft}
use Rattle.behavior.specs.System.{System, iter}
use Rattle.behavior.proofs.Stretch.{comes_wider, met_by}
use Rattle.ir_core.specs.Stops.{Stop, Divide, Answer, ending_of}
use Rattle.x86_core.specs.declared.flags.Flags.{Flags}
use Rattle.x86_core.specs.declared.image.Segment.{Segment}
use Rattle.x86_core.specs.declared.instr.Instr.{Instr}
use Rattle.x86_core.specs.Data.{stack_start, stack_end}
use Rattle.x86_core.specs.Memory.{reads, writes}
use Rattle.x86_core.specs.Step.{State, moment_of}
use Rattle.x86_rows.specs.Addresses.{SameShape}
use Rattle.x86_rows.specs.Saving.{IsStack}
use Rattle.x86_rows.specs.Straight.{Stopped, exec}
use Rattle.x86_rows.proofs.Shapes.{one_same, disjoint_same}
use Rattle.low_core.specs.declared.sel.SelBlock.{SelBlock}
use Rattle.low_core.specs.declared.sel.SelFun.{SelFun}
use Rattle.low_core.specs.declared.sel.SelOp.{SelOp}
use Rattle.low_core.specs.declared.sel.SelOp.TheVariants.{Set, Copy, Alu, Div, Widen, Test, Pick, Load, Store, FrameAt, GlobalAt, FunctionAt, Call, CallAt, Outside}
use Rattle.low_core.specs.declared.sel.Sel.{Sel}
use Rattle.low_core.specs.Flat.{Span, Bytes}
use Rattle.low_core.specs.Plan.{Plan, Content}
use Rattle.low_core.specs.SelState.{SelFrame, SelState, SelTurn, sel_moment, sel_turned}
use Rattle.low_core.specs.SelStep.{op_turn}
use Rattle.obj_core.specs.declared.object.Object.{Object}
use Rattle.obj_core.specs.declared.object.Place.{Place}
use Rattle.obj_core.specs.SymbolicMachine.{symbolic_step}
use Rattle.obj_rows.specs.Marked.{Marked, all_unlinked, row_size, Stands}
use Rattle.obj_rows.specs.Standing.{Outside as World, standing, shown}
use Rattle.obj_rows.proofs.Rows.{stands_first, stands_behind, instrs_of-unlinked, length-unlinked}
use Rattle.obj_rows.proofs.Runs.{row_comes, row_stops}
use Rattle.frame_rows.specs.declared.spot.Spot.{Spot}
use Rattle.frame_rows.specs.Bodies.{addresses_of}
use Rattle.frame_rows.specs.Code.{op_row}
use Rattle.frame_rows.specs.Sizes.{IsNoCall}
use Rattle.frame_rows.specs.Steps.{Leads, Meets, turn_to}
use Rattle.frame_rows.specs.Words.{Words, core_of}
use Rattle.frame_rows.proofs.Lengths.{op_sized}
use Rattle.frame_rows.proofs.Operations.{op_law}
use Rattle.frame_lower.specs.Chain.{function_in, slot_behind, code_in, rest_in, spans_of}
use Rattle.frame_lower.specs.Rows.{Making, marked_op}
use Rattle.frame_lower.specs.Suits.{Suits}
use Rattle.frame_lower.proofs.Chains.{chain_same, chain_moved, chain_high, reserved_low, moved_to}
use Rattle.frame_lower.proofs.Facts.{op_ready}
use Rattle.frame_lower.proofs.Rests.{op_stands}
use Rattle.frame_lower.specs.Meaning.{most_steps}
use Rattle.frame_lower.proofs.Stage.{state_of, last, globals, flat_in, Whole, Stage, A, B, Meets_}

-- the stack may be used after any write
pub stack_same : (low high : ℕ) (ss ts : List Segment) → SameShape ss ts → IsStack low high ss → IsStack low high ts
stack_same low high ss ts shape s = record {
  disjoint = disjoint_same ss ts shape s.disjoint;
  below = s.below;
  readable = λ p n from to some. sym (one_same reads ss ts p n shape) ∙ s.readable p n from to some;
  writable = λ p n from to some. sym (one_same writes ss ts p n shape) ∙ s.writable p n from to some;
}

-- the row of an operation that is no call
pub plain_row : (by : Making) (slot : ℕ) (op : SelOp) → IsNoCall op → marked_op by slot op ≡ all_unlinked (op_row by.homes by.plan (8 * by.words) op)
plain_row by slot (Set r n) plain = refl
plain_row by slot (Copy r s) plain = refl
plain_row by slot (Alu o w r s t) plain = refl
plain_row by slot (Div signed rest w r s t) plain = refl
plain_row by slot (Widen signed from to r s) plain = refl
plain_row by slot (Test p w r s t) plain = refl
plain_row by slot (Pick r c s t) plain = refl
plain_row by slot (Load w r s) plain = refl
plain_row by slot (Store w s t) plain = refl
plain_row by slot (FrameAt r at) plain = refl
plain_row by slot (GlobalAt r g) plain = refl
plain_row by slot (FunctionAt r g) plain = refl
plain_row by slot (Call g r args) plain = absurd plain
plain_row by slot (CallAt s r args) plain = absurd plain
plain_row by slot (Outside which r args) plain = absurd plain

-- of a plan it has the addresses alone
pub row_plan : (homes : ℕ → Spot) (plan : Plan) (own : ℕ) (op : SelOp) → op_row homes (addresses_of plan.globals plan.functions) own op ≡ op_row homes plan own op
row_plan homes plan own (Set r n) = refl
row_plan homes plan own (Copy r s) = refl
row_plan homes plan own (Alu o w r s t) = refl
row_plan homes plan own (Div signed rest w r s t) = refl
row_plan homes plan own (Widen signed from to r s) = refl
row_plan homes plan own (Test p w r s t) = refl
row_plan homes plan own (Pick r c s t) = refl
row_plan homes plan own (Load w r s) = refl
row_plan homes plan own (Store w s t) = refl
row_plan homes plan own (FrameAt r at) = refl
row_plan homes plan own (GlobalAt r g) = refl
row_plan homes plan own (FunctionAt r g) = refl
row_plan homes plan own (Call g r args) = refl
row_plan homes plan own (CallAt s r args) = refl
row_plan homes plan own (Outside which r args) = refl

module _ (o : Object) (sel : Sel) (plan : Plan) (contents : List Content) (by : ℕ → Making) (live : ℕ → ℕ → ℕ → ℕ → Type 0) (suits : Suits o sel plan contents by live) (input : List ℕ) where
  abbrev Tells : SelFrame → ℕ → List SelFrame → (ℕ → Type 0) → Bytes → Words → List Segment → Type 0
  Tells = Whole o sel plan contents by live suits input

  abbrev Stage_ : SelState → State Place → Type 0
  Stage_ = Stage o sel plan contents by live suits input

  abbrev A_ : System SelState
  A_ = A o sel plan contents by live suits input

  abbrev B_ : System (State Place)
  B_ = B o sel plan contents by live suits input

  abbrev globals_ : List Span
  globals_ = globals o sel plan contents by live suits input

  abbrev last_ : Place
  last_ = last o sel plan contents by live suits input

  -- an operation of the running function leaves what waits
  pub whole_op : (f : SelFrame) (depth : ℕ) (callers : List SelFrame) (alive after : ℕ → Type 0) (bytes bytes2 : Bytes) (registers : List (Option ℕ)) (w : Words) (fl : Flags) (ss : List Segment) (row : List Instr) (fn : SelFun) →
      slice_get sel.functions f.function ≡ Some fn →
      Tells f depth callers alive bytes w ss → (x : Leads (by f.function).homes f.base (by f.function).words row w fl ss after registers (flat_in o sel plan contents by live suits input (f ∷ callers) bytes2)) →
      Tells (moved_to o sel by globals_ live last_ f f.block (f.next + 1) registers) depth callers after bytes2 x.after x.segments
  whole_op f depth callers alive after bytes bytes2 registers w fl ss row fn is_function t x = record {
    tied = x.tied;
    counter = x.depth ∙ t.counter;
    stack = stack_same stack_start stack_end ss x.segments x.shape t.stack;
    room = t.room;
    active = t.active;
    own = t.own;
    off = t.off;
    chain = chain_moved o sel by globals_ live last_ callers x.segments f depth f.block (f.next + 1) registers
        (chain_same o sel by globals_ live last_ suits.five suits.homes callers ss x.segments f depth
        (λ q i. x.others q (inr (let low = reserved_low o sel by globals_ live last_ callers ss f depth q t.chain i in let e = suits.rooms f.function fn is_function in omega (arith, low, e))) (λ j. (t.off q j).1 i)) t.chain);
  }

  -- the running function stands before an operation or an end
  module _ (f : SelFrame) (callers : List SelFrame) (bytes : Bytes) (printed : List ℕ) (taken depth : ℕ) (w : Words) (fl : Flags) (ss : List Segment) (off : ℕ) (b : SelBlock)
      (is_function : slice_get sel.functions f.function ≡ Some (function_in sel f.function)) (is_block : slice_get (function_in sel f.function).blocks f.block ≡ Some b)
      (stands : Stands (code_in sel by f.function) off (rest_in sel by f.function off f.block f.next b)) (whole : Tells f depth callers (live f.function f.block f.next) bytes w ss) where
    abbrev pub s : SelState
    s = state_of f callers bytes printed taken

    abbrev pub out : World
    out = record { left = drop taken input; printed = printed; taken = taken }

    abbrev pub t : State Place
    t = standing out (Place.Code f.function off) (core_of w fl ss)

    -- a turn is left, or met
    abbrev pub Turned : Answer SelTurn → Type 0
    Turned turn = IsLeft (sel_moment (sel_turned s turn)) ⊎ Meets_ o sel plan contents by live suits input s (sel_turned s turn) t

    abbrev by_ : Making
    by_ = by f.function

    abbrev row : List Marked
    row = code_in sel by f.function

    -- the row of an operation that is passed leads to the next one
    pub goes_on : (op : SelOp) → slice_get b.ops f.next ≡ Some op → IsNoCall op → (registers : List (Option ℕ)) (bytes2 : Bytes) →
        Leads by_.homes f.base by_.words (op_row by_.homes by_.plan (8 * by_.words) op) w fl ss (live f.function f.block (f.next + 1)) registers (flat_in o sel plan contents by live suits input (f ∷ callers) bytes2) →
        Turned (turn_to f callers registers bytes2)
    goes_on op there plain registers bytes2 x =
        let first = op_row by_.homes by_.plan (8 * by_.words) op in
        let part = all_unlinked first in
        let off2 = off + row_size part in
        let stood : Stands row off (part ++ rest_in sel by f.function off2 f.block (f.next + 1) b) =
        subst (λ m. Stands row off (m ++ rest_in sel by f.function (off + row_size m) f.block (f.next + 1) b)) (plain_row by_ (slot_behind sel f.function f.block (take f.next b.ops)) op plain)
        (op_stands sel by f.function f.block f.next b row off stands op there) in
        let u = standing out (Place.Code f.function off2) (core_of x.after x.flags x.segments) in
        let g = moved_to o sel by globals_ live last_ f f.block (f.next + 1) registers in
        let sized = op_sized by_.homes by_.plan (8 * by_.words) op plain in
        let long = length-unlinked first in
        let some = sized.some in
        let few = sized.count in
        inr (met_by A_ B_ Stage_ (λ _. 0) most_steps s (sel_turned s (turn_to f callers registers bytes2)) t u
        (comes_wider (symbolic_step o) (length part) (length part) 1 most_steps t u (omega (arith, long, some)) (omega (arith, long, few))
        (row_comes o f.function row (suits.codes f.function _ is_function) out part off (core_of w fl ss) (core_of x.after x.flags x.segments)
        (stands_first row off part (rest_in sel by f.function off2 f.block (f.next + 1) b) stood) (ap (λ is. exec is (core_of w fl ss)) (instrs_of-unlinked first) ∙ x.runs)))
        (inl (record {
          frame = g;
          callers = callers;
          bytes = bytes2;
          printed = printed;
          taken = taken;
          depth = depth;
          words = x.after;
          flags = x.flags;
          segments = x.segments;
          offset = off2;
          here = b;
          is_function = is_function;
          is_block = is_block;
          stands = stands_behind row off part (rest_in sel by f.function off2 f.block (f.next + 1) b) stood;
          whole = whole_op f depth callers (live f.function f.block f.next) (live f.function f.block (f.next + 1)) bytes bytes2 registers w fl ss first _ is_function whole x;
          source = refl;
          target = refl;
        })))

    -- a row that stops stops both runs
    pub stops_at : (part : List Instr) (rest : List Marked) (stop : Stop) (e : Ending) → Stands row off (all_unlinked part ++ rest) → exec part (core_of w fl ss) ≡ Stopped e → length part ≤ 100 → 1 ≤ length part →
        ending.is_going (ending_of stop) ≡ false → ending.common (ending_of stop) ≡ ending.common e → Turned (Err stop)
    stops_at part rest stop e stood stops few some stopped agree =
        let marked = all_unlinked part in
        let long = length-unlinked part in
        let u = iter (symbolic_step o) (length marked) t in
        let m : moment_of u ≡ shown out e = row_stops o f.function row (suits.codes f.function _ is_function) out marked off (core_of w fl ss) e (stands_first row off marked rest stood)
        (ap (λ is. exec is (core_of w fl ss)) (instrs_of-unlinked part) ∙ stops) in
        inr (record {
          count = length marked;
          within = omega (arith, long, few);
          moves = inl (omega (arith, long, some));
          lands = inr (stopped, record { printed = ap (λ x. x.printed) (sym m); taken = ap (λ x. x.taken) (sym m); ending = agree ∙ ap (λ x. ending.common x.ending) (sym m) });
        })

    -- an operation that is no call
    pub plain_step : (op : SelOp) → slice_get b.ops f.next ≡ Some op → IsNoCall op → Turned (op_turn sel plan (flat_in o sel plan contents by live suits input (f ∷ callers) bytes) input s f callers op)
    plain_step op there plain =
        let high = chain_high o sel by globals_ live last_ callers ss f depth whole.chain in
        let own = whole.own in
        let at_own : f.own.start ≡ f.base + 8 * by_.words = ap (λ (x : Span). x.start) own in
        let rows : op_row by_.homes plan (8 * by_.words) op ≡ op_row by_.homes by_.plan (8 * by_.words) op =
        sym (ap (λ p. op_row by_.homes p (8 * by_.words) op) (suits.addresses f.function) ∙ row_plan by_.homes plan (8 * by_.words) op) in
        by_meeting _ (subst (λ is. Meets by_.homes f.base by_.words is w fl ss (live f.function f.block (f.next + 1)) f callers (spans_of o sel by globals_ live last_ (f ∷ callers))
        (op_turn sel plan (flat_in o sel plan contents by live suits input (f ∷ callers) bytes) input s f callers op)) rows
        (op_law by_.homes f.base by_.words (8 * by_.words) plan (live f.function f.block f.next) (live f.function f.block (f.next + 1)) sel input s f callers (spans_of o sel by globals_ live last_ (f ∷ callers)) w fl ss whole.tied at_own op
        (op_ready o sel plan contents by live suits f.function f.block f.next f.base _ b op is_function is_block there (omega (arith, high)) plain) ((suits.allotted f.function _ is_function).ops f.block f.next b op is_block there)))
      where
        by_meeting : (turn : Answer SelTurn) → Meets by_.homes f.base by_.words (op_row by_.homes by_.plan (8 * by_.words) op) w fl ss (live f.function f.block (f.next + 1)) f callers
            (spans_of o sel by globals_ live last_ (f ∷ callers)) turn → Turned turn
        by_meeting turn (Meets.IsLeft stop e l) = inl (subst (λ q. IsLeft (sel_moment (sel_turned s q))) (sym e) l)
        by_meeting turn (Meets.GoesOn registers bytes2 e x) = subst Turned (sym e) (goes_on op there plain registers bytes2 x)
        by_meeting turn (Meets.Divides e stops) =
            let first = op_row by_.homes by_.plan (8 * by_.words) op in
            let sized = op_sized by_.homes by_.plan (8 * by_.words) op plain in
            let some = sized.some in
            let few = sized.count in
            let stood : Stands row off (all_unlinked first ++ rest_in sel by f.function (off + row_size (all_unlinked first)) f.block (f.next + 1) b) =
            subst (λ m. Stands row off (m ++ rest_in sel by f.function (off + row_size m) f.block (f.next + 1) b)) (plain_row by_ (slot_behind sel f.function f.block (take f.next b.ops)) op plain)
            (op_stands sel by f.function f.block f.next b row off stands op there) in
            subst Turned (sym e) (stops_at first (rest_in sel by f.function (off + row_size (all_unlinked first)) f.block (f.next + 1) b) Divide ending.Divide stood stops (omega (arith, few)) some refl refl)
