-- What the image of an object shows: nothing that is seen of a run tells where its code lies.
use Rattle.std.specs.Prelude.{◌≡◌, ◌≢◌, ℕ, if◌then◌else◌, List, [], ◌∷◌, length, Option, Some, None}
use Rattle.behavior.specs.Ending.{Strayed}
use Rattle.x86_core.specs.declared.image.Image.{Image}
use Rattle.x86_core.specs.Memory.{writes, is_allowed, data_of}
use Rattle.x86_core.specs.Data.{data_segments}
use Rattle.x86_core.specs.Step.{State}
use Rattle.x86_core.specs.Run.{Act}
use Rattle.x86_core.specs.Machine.{machine_segments, machine_run}
use Rattle.x86_core.specs.Observation.{observe, reply_to}
use Rattle.obj_core.specs.declared.object.Object.{Object}
use Rattle.obj_core.specs.Object.{Each}
use Rattle.obj_core.specs.Slots.{slot_start}
use Rattle.obj_core.specs.SymbolicMachine.{symbolic_run}

-- each run of the image shows what the object's run shows, registers, flags and readable memory included, whatever
-- somebody who looks on writes between the steps, as long as the object's run has not strayed
abbrev pub ShowsObject : Image → Object → Type 0
ShowsObject image o = (input : List ℕ) (acts : List Act) → (symbolic_run o input acts).ending ≢ Strayed → observe (machine_run image input acts) ≡ observe (symbolic_run o input acts)

-- what may be read or written is the object's data and the stack, and the entry is slot 0's address: in none of them
-- is there a layout seed
pub record HasDataOf (image : Image) (o : Object) : Type 0 where
  pub data_is : data_of (machine_segments image) ≡ data_segments o.ro o.rw
  pub entry : image.entry ≡ slot_start o 0

-- what somebody who looks on asks for: so many bytes from an address on, or that bytes are written from it on
pub data Wish : Type 0 where
  Reads : (at : ℕ) (len : ℕ) → Wish
  Writes : (at : ℕ) (bytes : List ℕ) → Wish

-- a wish, and all that was done to the run before it
pub record Look : Type 0 where
  pub before : List Act
  pub wish : Wish

-- what a wish is answered
pub data Answer : Type 0 where
  Bytes : (bytes : List ℕ) → Answer
  Written : Answer
  Refused : Answer

abbrev pub answer_of : Option (List ℕ) → Answer
answer_of None = Refused
answer_of (Some bytes) = Bytes bytes

-- a read is answered by what is seen, a write by whether one segment that may be written covers its range
abbrev pub answer_in : {P : Type 0} → Wish → State P → Answer
answer_in (Reads at len) s = answer_of (reply_to (observe s) at len)
answer_in (Writes at bytes) s = if is_allowed writes s.segments at (length bytes) then Written else Refused

-- what runs answer to looks
abbrev pub answers : {P : Type 0} → (List Act → State P) → List Look → List Answer
answers run [] = []
answers run (l ∷ ls) = answer_in l.wish (run l.before) ∷ answers run ls

-- where no look comes after a stray, the image answers what the object answers, whatever was written before
abbrev pub RepliesAsObject : Image → Object → Type 0
RepliesAsObject image o = (input : List ℕ) (looks : List Look) → Each (λ l. (symbolic_run o input l.before).ending ≢ Strayed) looks → answers (machine_run image input) looks ≡ answers (symbolic_run o input) looks

-- two images of one object show the same after each act, as long as the object's run has not strayed
abbrev pub ShowTheSame : Image → Image → Object → Type 0
ShowTheSame image other o = (input : List ℕ) (acts : List Act) → (symbolic_run o input acts).ending ≢ Strayed → observe (machine_run image input acts) ≡ observe (machine_run other input acts)
