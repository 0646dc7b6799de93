-- What the calls of a machine do to it and to the outside, by the steps of the machine's definition.
use Rattle.std.specs.Prelude.{ℕ, ◌≡◌, ◌+◌, ◌<◌, ◌≤◌, ◌⊎◌, List, [], ◌∷◌, ◌++◌, length, Some, Result, Ok, Err}
use Rattle.behavior.specs.System.{iter}
use Rattle.rd_io.specs.Causes.{Rose}
use Rattle.rd_io.specs.Outside.{Gets, Counts, IsPrefixOf}
use Rattle.rd_io.specs.declared.RunFault.{RunFault}
use Rattle.rd_io.specs.declared.RunFault.TheVariants.{Input, Output, NoMemory}
use Rattle.x86_core.specs.Step.{State}
use Rattle.x86_core.specs.Machine.{machine_step}
use Rattle.rd_io.specs.Told.{SourceTold, SinkTold}
use Rattle.xom_machine.specs.declared.machine.Machine.{Machine}
use Rattle.xom_machine.specs.Standing.{state_of, StreamsTold, Stands}

-- n steps were taken, where the input is told
unfoldable pub Took : ℕ → Machine → Machine → StreamsTold → StreamsTold → Type 0
Took n old new before now = (xs : List ℕ) → before.left ≡ Some xs → Stands (iter machine_step n (state_of old xs [] 0)) new before now

-- counts of faults: a source's is raised where the answer is Input, a sink's where it is Output, and no other
abbrev pub Charged : {T : Type 0} → SourceTold → SourceTold → SinkTold → SinkTold → Result T RunFault → Type 0
Charged source source2 sink sink2 (Ok x) = (source2.faults ≡ source.faults) × (sink2.faults ≡ sink.faults)
Charged source source2 sink sink2 (Err Input) = Rose source.faults source2.faults × (source.faults ≤ source2.faults) × (sink2.faults ≡ sink.faults)
Charged source source2 sink sink2 (Err Output) = (source2.faults ≡ source.faults) × Rose sink.faults sink2.faults × (sink.faults ≤ sink2.faults)
Charged source source2 sink sink2 (Err NoMemory) = (source2.faults ≡ source.faults) × (sink2.faults ≡ sink.faults)

-- what is done once prints these bytes
abbrev pub piece_of : (State ℕ → State ℕ) → Machine → List ℕ
piece_of f m = (f (state_of m [] [] 0)).printed

-- it takes a byte of the input, where one is left
abbrev pub AsksIn : (State ℕ → State ℕ) → Machine → Type 0
AsksIn f m = (f (state_of m (0 ∷ []) [] 0)).taken ≡ 1

-- the outside has got these bytes and a prefix of a piece that isn't empty, and lost nothing but what the first did
pub record GotPart (before now : StreamsTold) (bytes piece : List ℕ) : Type 0 where
  pub some : 0 < length piece
  pub written : (part : List ℕ) × (IsPrefixOf part piece × Gets before.written now.written (bytes ++ part))
  pub total : (count : ℕ) × ((count ≤ length piece) × Counts before.total now.total (length bytes + count))

-- a step that the outside, or want of memory, did not let happen, from where the machine stands: memory is wanting for a page,
-- before the outside has a part in the step, or in a sink
abbrev pub Kept : (State ℕ → State ℕ) → Machine → StreamsTold → StreamsTold → RunFault → Type 0
Kept f m before now Input = AsksIn f m × (now ≡ before)
Kept f m before now Output = (now.left ≡ before.left) × GotPart before now [] (piece_of f m)
Kept f m before now NoMemory = (now ≡ before) ⊎ ((now.left ≡ before.left) × GotPart before now [] (piece_of f m))

-- something was done once, whatever was printed and taken before
unfoldable pub Did : (State ℕ → State ℕ) → Machine → Machine → StreamsTold → StreamsTold → Type 0
Did f old new before now = (xs printed : List ℕ) (taken : ℕ) (first : StreamsTold) → before.left ≡ Some xs →
    Gets first.written before.written printed → Counts first.total before.total (length printed) →
    Stands (f (state_of old xs printed taken)) new first now

-- it was done, or the outside or want of memory did not let it happen
unfoldable pub Ran : {T : Type 0} → (State ℕ → State ℕ) → Machine → Machine → StreamsTold → StreamsTold → Result T RunFault → Type 0
Ran f old new before now (Ok x) = Did f old new before now
Ran f old new before now (Err e) = (new ≡ old) × Kept f old before now e

-- the machine alone becomes another, and the outside has no part in it
abbrev pub Becomes : (State ℕ → State ℕ) → Machine → Machine → Type 0
Becomes f old new = (left printed : List ℕ) (taken : ℕ) → state_of new left printed taken ≡ f (state_of old left printed taken)

-- the same, unless memory is wanting: then the machine is as it was
abbrev pub Tries : {T E : Type 0} → (State ℕ → State ℕ) → Machine → Machine → Result T E → Type 0
Tries f old new (Ok x) = Becomes f old new
Tries f old new (Err e) = new ≡ old

-- where a run of fewer than n steps was cut off: before a step that the outside or want of memory did not let happen
abbrev pub IsCut : StreamsTold → StreamsTold → State ℕ → Machine → RunFault → Type 0
IsCut before now s m Input = AsksIn machine_step m × Stands s m before now
IsCut before now s m Output = (state_of m s.left s.printed s.taken ≡ s) × (now.left ≡ Some s.left) × GotPart before now s.printed (piece_of machine_step m)
IsCut before now s m NoMemory = Stands s m before now ⊎ ((state_of m s.left s.printed s.taken ≡ s) × (now.left ≡ Some s.left) × GotPart before now s.printed (piece_of machine_step m))

unfoldable pub CutOff : ℕ → Machine → Machine → StreamsTold → StreamsTold → RunFault → Type 0
CutOff n old new before now e = (xs : List ℕ) → before.left ≡ Some xs → (k : ℕ) × ((k < n) × IsCut before now (iter machine_step k (state_of old xs [] 0)) new e)
