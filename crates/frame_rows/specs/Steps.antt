-- What the row of an operation comes to, and what an operation has to be for that.
use Rattle.std.specs.Prelude.{◌≡◌, ◌≢◌, ℕ, ◌+◌, ◌*◌, ◌^◌, ◌<◌, ◌≤◌, ◌⊎◌, List, ◌∷◌, true, slice_get, Option, Some, Ok, Err}
use Rattle.behavior.specs.Ending.{is_left}
use Rattle.behavior.specs.Ending as ending
use Rattle.ir_core.specs.Stops.{Stop, Divide, Answer, ending_of}
use Rattle.ir_core.specs.State.{Nothing}
use Rattle.x86_core.specs.declared.flags.Flags.{Flags}
use Rattle.x86_core.specs.declared.image.Segment.{Segment}
use Rattle.x86_core.specs.declared.instr.Instr.{Instr}
use Rattle.x86_rows.specs.Addresses.{byte_at, SameShape}
use Rattle.x86_rows.specs.Straight.{Through, Stopped, exec}
use Rattle.low_core.specs.declared.sel.SelOp.{SelOp}
use Rattle.low_core.specs.declared.sel.SelOp.TheVariants.{Set, Div, FrameAt, GlobalAt, FunctionAt, Call, CallAt, Outside}
use Rattle.low_core.specs.Flat.{Span, Bytes, Flat, is_inside}
use Rattle.low_core.specs.Plan.{Plan}
use Rattle.low_core.specs.SelParts.{reads_of, assigns_of, IsOneOf}
use Rattle.low_core.specs.SelShaped.{IsWide}
use Rattle.low_core.specs.SelState.{SelFrame, SelTurn}
use Rattle.frame_rows.specs.declared.spot.Spot.{Spot}
use Rattle.frame_rows.specs.Words.{Words, core_of}
use Rattle.frame_rows.specs.Ties.{Differ, Tied}

-- what the code of an operation asks of it, where the function's own memory begins so many bytes above the frame's lowest word
abbrev pub IsReady : Plan → ℕ → ℕ → SelOp → Type 0
IsReady plan base own (Set r n) = n < 2 ^ 64
IsReady plan base own (Div signed rest w r s t) = IsWide w
IsReady plan base own (FrameAt r at) = (own + at < 2 ^ 31) × (base + (own + at) < 2 ^ 64)
IsReady plan base own (GlobalAt r g) = (n : ℕ) → slice_get plan.globals g ≡ Some n → n < 2 ^ 64
IsReady plan base own (FunctionAt r g) = (n : ℕ) → slice_get plan.functions g ≡ Some n → n < 2 ^ 64
IsReady plan base own (Call g r args) = ⊥
IsReady plan base own (CallAt s r args) = ⊥
IsReady plan base own (Outside which r args) = ⊥
IsReady plan base own other = Unit {0}

-- what is live before and after an operation: what it reads, and what is live after it and isn't assigned; and that lives elsewhere
pub record IsAllocated (homes : ℕ → Spot) (live after : ℕ → Type 0) (op : SelOp) : Type 0 where
  pub reads : (x : ℕ) → IsOneOf x (reads_of op) → live x
  pub stays : (x : ℕ) → after x → assigns_of op ≢ Some x → live x
  pub apart : (x r : ℕ) → assigns_of op ≡ Some r → after x → x ≢ r → Differ (homes x) (homes r)

-- a row leads to ties with these registers and this flat memory; r15 and the shape of the segments stay, and so does each byte
-- that is neither in the frame nor in the flat memory
pub record Leads (homes : ℕ → Spot) (base words : ℕ) (row : List Instr) (w : Words) (f : Flags) (ss : List Segment) (live : ℕ → Type 0) (registers : List (Option ℕ)) (flat : Flat) : Type 0 where
  pub after : Words
  pub flags : Flags
  pub segments : List Segment
  pub runs : exec row (core_of w f ss) ≡ Through (core_of after flags segments)
  pub tied : Tied homes base words live registers flat after segments
  pub depth : after.r15 ≡ w.r15
  pub shape : SameShape ss segments
  pub others : (p : ℕ) → (p < base) ⊎ (base + 8 * words ≤ p) → (is_inside p 1 flat.spans ≡ true → ⊥) → byte_at segments p ≡ byte_at ss p

-- an operation goes on with these registers and these bytes in the flat memory
abbrev pub turn_to : SelFrame → List SelFrame → List (Option ℕ) → Bytes → Answer SelTurn
turn_to f callers registers bytes = Ok (record { frames = record f { next = f.next + 1; registers = registers } ∷ callers; bytes = bytes; exchange = Nothing })

-- what an operation does in the innermost call, and what its row does: the step is left; or both go on, and what was tied is
-- tied; or both stop at a division
pub data Meets (homes : ℕ → Spot) (base words : ℕ) (row : List Instr) (w : Words) (fl : Flags) (ss : List Segment) (after : ℕ → Type 0) (f : SelFrame) (callers : List SelFrame) (spans : List Span) (turn : Answer SelTurn) : Type 0 where
  IsLeft : (stop : Stop) → turn ≡ Err stop → is_left (ending_of stop) ≡ true → Meets homes base words row w fl ss after f callers spans turn
  GoesOn : (registers : List (Option ℕ)) → (bytes : Bytes) → turn ≡ turn_to f callers registers bytes → Leads homes base words row w fl ss after registers (record { spans = spans; bytes = bytes }) → Meets homes base words row w fl ss after f callers spans turn
  Divides : turn ≡ Err Divide → exec row (core_of w fl ss) ≡ Stopped ending.Divide → Meets homes base words row w fl ss after f callers spans turn
