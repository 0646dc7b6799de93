-- The run of a program of registers and that of its object, side by side.
use Rattle.std.proofs.Common.{◌≡◌, ℕ, zero, suc, ◌+◌, List, [], ◌∷◌, length, drop, Option, Some, ◌∙◌, ap}
use Rattle.std.specs.Prelude.{get_or, slice_get}
use Rattle.behavior.specs.Ending.{Going}
use Rattle.behavior.specs.System.{System}
use Rattle.behavior.specs.Simulation.{Met}
use Rattle.behavior.proofs.Between.{adds_grows}
use Rattle.ir_core.specs.declared.TheConstants.{MAX_CALLS}
use Rattle.ir_core.specs.Stops.{Malformed, and_then, found_or}
use Rattle.x86_core.specs.declared.flags.Flags.{Flags}
use Rattle.x86_core.specs.declared.image.Segment.{Segment}
use Rattle.x86_core.specs.Data.{stack_start, stack_end}
use Rattle.x86_core.specs.Step.{State}
use Rattle.x86_core.proofs.Steps.{machine_system}
use Rattle.x86_rows.specs.Saving.{IsStack}
use Rattle.low_core.specs.declared.sel.SelBlock.{SelBlock}
use Rattle.low_core.specs.declared.sel.SelFun.{SelFun}
use Rattle.low_core.specs.declared.sel.SelOp.{SelOp}
use Rattle.low_core.specs.declared.sel.Sel.{Sel}
use Rattle.low_core.specs.Flat.{Span, Bytes, Flat}
use Rattle.low_core.specs.Plan.{Plan, Content, global_spans}
use Rattle.low_core.specs.SelState.{SelFrame, SelState, sel_moment, sel_turned}
use Rattle.low_core.specs.SelStep.{sel_turn_at, sel_step}
use Rattle.low_core.proofs.SelLaws.{sel_adds, sel_stays}
use Rattle.obj_core.specs.declared.object.Object.{Object}
use Rattle.obj_core.specs.declared.object.Place.{Place}
use Rattle.obj_core.specs.SymbolicMachine.{symbolic_fetch, symbolic_land}
use Rattle.obj_rows.specs.Marked.{Stands}
use Rattle.obj_rows.specs.Standing.{standing}
use Rattle.frame_rows.specs.Words.{Words, core_of}
use Rattle.frame_rows.specs.Ties.{Tied}
use Rattle.frame_lower.specs.Chain.{HasRoom, no_function, function_in, code_in, rest_in, spans_of, own_of, IsOff, Chain}
use Rattle.frame_lower.specs.Meaning.{most_steps}
use Rattle.frame_lower.specs.Rows.{Making}
use Rattle.frame_lower.specs.Suits.{Suits}

-- a program of registers as a system
abbrev pub sel_system : Sel → Plan → List Content → List ℕ → System SelState
sel_system sel plan contents input = record {
  step = sel_step sel plan contents input;
  moment = sel_moment;
  grows = λ s. adds_grows (sel_moment s) (sel_moment (sel_step sel plan contents input s)) (sel_adds sel plan contents input s);
  stays = λ s h. ap sel_moment (sel_stays sel plan contents input s h);
}

-- an object's machine as a system
abbrev pub object_system : Object → System (State Place)
object_system o = machine_system (λ _. symbolic_fetch o) (symbolic_land o)

-- a state of a run that goes on in the first of its calls
abbrev pub state_of : SelFrame → List SelFrame → Bytes → List ℕ → ℕ → SelState
state_of f callers bytes printed taken = record { frames = f ∷ callers; bytes = bytes; printed = printed; taken = taken; ending = Going }

module _ (o : Object) (sel : Sel) (plan : Plan) (contents : List Content) (by : ℕ → Making) (live : ℕ → ℕ → ℕ → ℕ → Type 0) (suits : Suits o sel plan contents by live) (input : List ℕ) where
  abbrev pub globals : List Span
  globals = global_spans plan.globals contents

  -- where the first function goes back
  abbrev pub last : Place
  last = (suits.routines.start input).back

  abbrev pub Waits : List Segment → SelFrame → ℕ → List SelFrame → Type 0
  Waits = Chain o sel by globals live last

  abbrev pub Beside : SelFrame → List SelFrame → Type 0
  Beside = IsOff o sel by globals live last

  -- the flat memory of calls
  abbrev pub flat_in : List SelFrame → Bytes → Flat
  flat_in fs bytes = record { spans = spans_of o sel by globals live last fs; bytes = bytes }

  -- what is tied in the running function and in those that wait, where so many calls may still be made
  pub record Whole (f : SelFrame) (depth : ℕ) (callers : List SelFrame) (alive : ℕ → Type 0) (bytes : Bytes) (w : Words) (ss : List Segment) : Type 0 where
    pub tied : Tied (by f.function).homes f.base (by f.function).words alive f.registers (flat_in (f ∷ callers) bytes) w ss
    pub counter : w.r15 ≡ depth
    pub stack : IsStack stack_start stack_end ss
    pub room : HasRoom f.base depth
    pub active : depth + suc (length callers) ≡ MAX_CALLS
    pub own : f.own ≡ own_of o sel by globals live last f
    pub off : Beside f callers
    pub chain : Waits ss f depth callers

  -- both runs at an operation or an end
  pub record Stage (a : SelState) (t : State Place) : Type 0 where
    pub frame : SelFrame
    pub callers : List SelFrame
    pub bytes : Bytes
    pub printed : List ℕ
    pub taken : ℕ
    pub depth : ℕ
    pub words : Words
    pub flags : Flags
    pub segments : List Segment
    pub offset : ℕ
    pub here : SelBlock
    pub is_function : slice_get sel.functions frame.function ≡ Some (function_in sel frame.function)
    pub is_block : slice_get (function_in sel frame.function).blocks frame.block ≡ Some here
    pub stands : Stands (code_in sel by frame.function) offset (rest_in sel by frame.function offset frame.block frame.next here)
    pub whole : Whole frame depth callers (live frame.function frame.block frame.next) bytes words segments
    pub source : a ≡ state_of frame callers bytes printed taken
    pub target : t ≡ standing (record { left = drop taken input; printed = printed; taken = taken }) (Place.Code frame.function offset) (core_of words flags segments)

  abbrev pub A : System SelState
  A = sel_system sel plan contents input

  abbrev pub B : System (State Place)
  B = object_system o

  abbrev pub Meets_ : SelState → SelState → State Place → Type 0
  Meets_ a a2 t = Met A B Stage (λ _. 0) most_steps a a2 t

  -- a step is that of the operation, or of the end past the last one
  pub step_is : (f : SelFrame) (callers : List SelFrame) (bytes : Bytes) (printed : List ℕ) (taken : ℕ) (fn : SelFun) (b : SelBlock) (q : Option SelOp) → slice_get sel.functions f.function ≡ Some fn →
      slice_get fn.blocks f.block ≡ Some b → slice_get b.ops f.next ≡ q →
      let s = state_of f callers bytes printed taken in
      sel_step sel plan contents input s ≡ sel_turned s (sel_turn_at sel plan (flat_in (f ∷ callers) bytes) input s f callers b q)
  unfolding sel_step
  step_is f callers bytes printed taken fn b q is_function is_block there =
      let s = state_of f callers bytes printed taken in
      let flat = flat_in (f ∷ callers) bytes in
      ap (λ x. sel_turned s (and_then (found_or Malformed x) (λ (g : SelFun). and_then (found_or Malformed (slice_get g.blocks f.block)) (λ (c : SelBlock). sel_turn_at sel plan flat input s f callers c (slice_get c.ops f.next)))))
      is_function ∙
      ap (λ x. sel_turned s (and_then (found_or Malformed x) (λ (c : SelBlock). sel_turn_at sel plan flat input s f callers c (slice_get c.ops f.next)))) is_block ∙
      ap (λ x. sel_turned s (sel_turn_at sel plan flat input s f callers b x)) there

-- a function that is there is the one of its number
pub function_is : (sel : Sel) (g : ℕ) (fn : SelFun) → slice_get sel.functions g ≡ Some fn → function_in sel g ≡ fn
function_is sel g fn there = by_list sel.functions g there
  where
    by_list : (fs : List SelFun) (k : ℕ) → slice_get fs k ≡ Some fn → get_or fs k no_function ≡ fn
    by_list [] k none = absurd (cc)
    by_list (h ∷ fs) zero e = let same : h ≡ fn = cc in same
    by_list (h ∷ fs) (suc k) e = by_list fs k e
