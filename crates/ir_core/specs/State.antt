-- The states of a run, and what a step makes of them.
use Rattle.std.specs.Prelude.{ℕ, ◌+◌, List, [], ◌∷◌, ◌++◌, Option, Some, None, Ok, Err}
use Rattle.behavior.specs.Ending.{Ending, Going}
use Rattle.behavior.specs.Moment.{Moment}
use Rattle.ir_core.specs.declared.memory.Value.{Value}
use Rattle.ir_core.specs.Memory.{Memory}
use Rattle.ir_core.specs.Stops.{Answer, ending_of}

-- a value that a local was given
pub record Local : Type 0 where
  pub name : List ℕ
  pub value : Value

-- a call that is active
pub record Frame : Type 0 where
  -- the number of its function, and of the block in it
  pub function : ℕ
  pub block : ℕ
  -- the number of the next instruction in the block; past the last one it is the terminator
  pub next : ℕ
  -- what its locals were given, the newest first; a local without an entry has no value
  pub locals : List Local
  -- the numbers of the objects that its allocas made
  pub objects : List ℕ
  -- the local of the caller that gets the result
  pub into : Option (List ℕ)

-- a run after some steps
pub record State : Type 0 where
  -- the active calls, the innermost first
  pub frames : List Frame
  pub objects : Memory
  pub printed : List ℕ
  -- how many bytes of the input were taken
  pub taken : ℕ
  pub ending : Ending

-- what a state shows
abbrev pub source_moment : State → Moment
source_moment s = record { printed = s.printed; taken = s.taken; ending = s.ending }

-- what a step exchanges with the outside
pub data Exchange : Type 0 where
  Nothing : Exchange
  Print : (byte : ℕ) → Exchange
  Take : Exchange

-- what a step that doesn't stop the run makes
pub record Turn : Type 0 where
  pub frames : List Frame
  pub objects : Memory
  pub exchange : Exchange

-- the bytes printed after an exchange
abbrev pub printed_with : List ℕ → Exchange → List ℕ
printed_with bytes Nothing = bytes
printed_with bytes (Print byte) = bytes ++ byte ∷ []
printed_with bytes Take = bytes

-- the number of bytes taken after an exchange
abbrev pub taken_with : ℕ → Exchange → ℕ
taken_with count Nothing = count
taken_with count (Print byte) = count
taken_with count Take = count + 1

-- the state after a step; one that stops the run changes the ending alone
abbrev pub turned : State → Answer Turn → State
turned s (Ok t) = record {
  frames = t.frames;
  objects = t.objects;
  printed = printed_with s.printed t.exchange;
  taken = taken_with s.taken t.exchange;
  ending = Going;
}
turned s (Err stop) = record s { ending = ending_of stop }

-- the locals once one more was given a value
abbrev pub with_local : Option (List ℕ) → Value → List Local → List Local
with_local (Some name) v locals = record { name = name; value = v } ∷ locals
with_local None v locals = locals
