-- The states of a run of a program of registers.
use Rattle.std.specs.Prelude.{ℕ, ◌+◌, ◌-◌, List, [], ◌∷◌, ◌++◌, true, map, replicate, slice_get, slice_set, Option, Some, None, Ok, Err}
use Rattle.behavior.specs.Ending.{Ending, Going}
use Rattle.behavior.specs.Moment.{Moment}
use Rattle.ir_core.specs.declared.memory.Reason.TheVariants.{Unset}
use Rattle.ir_core.specs.Stops.{Left, Answer, and_then, found_or, ending_of}
use Rattle.ir_core.specs.State.{Exchange, printed_with, taken_with}
use Rattle.x86_core.specs.Data.{stack_end}
use Rattle.low_core.specs.declared.sel.SelFun.{SelFun}
use Rattle.low_core.specs.Flat.{Span, Bytes, Flat}
use Rattle.low_core.specs.Plan.{FramePlan, Plan, Content, global_spans}

-- a call that is active
pub record SelFrame : Type 0 where
  -- the number of its function, of the block in it, and of the next operation in that; past the last one it is the end
  pub function : ℕ
  pub block : ℕ
  pub next : ℕ
  -- a word for each register that was assigned
  pub registers : List (Option ℕ)
  -- the lowest address of its frame, and in the frame its own memory
  pub base : ℕ
  pub own : Span
  -- the register of the caller that gets the result
  pub into : Option ℕ

-- a run after some steps
pub record SelState : Type 0 where
  -- the active calls, the innermost first
  pub frames : List SelFrame
  pub bytes : Bytes
  pub printed : List ℕ
  -- how many bytes of the input were taken
  pub taken : ℕ
  pub ending : Ending

-- what a state shows
abbrev pub sel_moment : SelState → Moment
sel_moment s = record { printed = s.printed; taken = s.taken; ending = s.ending }

-- what a step that doesn't stop the run makes
pub record SelTurn : Type 0 where
  pub frames : List SelFrame
  pub bytes : Bytes
  pub exchange : Exchange

-- the state after a step; one that stops the run changes the ending alone
abbrev pub sel_turned : SelState → Answer SelTurn → SelState
sel_turned s (Ok t) = record {
  frames = t.frames;
  bytes = t.bytes;
  printed = printed_with s.printed t.exchange;
  taken = taken_with s.taken t.exchange;
  ending = Going;
}
sel_turned s (Err stop) = record s { ending = ending_of stop }

-- memory: the globals, and the own memory of each active call
abbrev pub flat_of : Plan → List Content → SelState → Flat
flat_of plan contents s = record { spans = map (λ (f : SelFrame). f.own) s.frames ++ global_spans plan.globals contents; bytes = s.bytes }

-- what a register holds, if there is such a register, and if it holds a word
abbrev pub held : Option (Option ℕ) → Option ℕ
held None = None
held (Some word) = word

-- a register that wasn't assigned stops the run
abbrev pub word_in : List (Option ℕ) → ℕ → Answer ℕ
word_in registers r = found_or (Left Unset) (held (slice_get registers r))

-- some registers, the first one read first
abbrev pub words_in : List (Option ℕ) → List ℕ → Answer (List ℕ)
words_in registers [] = Ok []
words_in registers (r ∷ rs) = and_then (word_in registers r) (λ n. and_then (words_in registers rs) (λ ns. Ok (n ∷ ns)))

-- the registers once one was assigned
abbrev pub with_register : List (Option ℕ) → ℕ → ℕ → List (Option ℕ)
with_register registers r word = slice_set registers r (Some word)

-- parameters hold the words of the arguments
abbrev pub bound : List ℕ → List ℕ → List (Option ℕ) → List (Option ℕ)
bound (r ∷ rs) (n ∷ ns) registers = with_register (bound rs ns registers) r n
bound [] ns registers = registers
bound (r ∷ rs) [] registers = registers

-- where a new frame ends: frames go down from the end of the stack
abbrev pub top_of : List SelFrame → ℕ
top_of [] = stack_end
top_of (f ∷ fs) = f.base

-- the own memory of a function whose frame ends at an address
abbrev pub own_span : SelFun → FramePlan → ℕ → Span
own_span fn p top = record { start = (top - p.bytes) + p.allocas; size = fn.frame; writable = true }

-- a call of a function at its start: no register but the parameters is assigned
abbrev pub first_sel_frame : ℕ → SelFun → FramePlan → ℕ → List ℕ → Option ℕ → SelFrame
first_sel_frame number fn p top arguments into = record {
  function = number;
  block = 0;
  next = 0;
  registers = bound fn.params arguments (replicate fn.registers None);
  base = top - p.bytes;
  own = own_span fn p top;
  into = into;
}
