-- What a run of a program did between a source and a sink, by the steps of the meaning of its module.
use Rattle.std.specs.Prelude.{ℕ, ◌≡◌, ◌+◌, ◌-◌, ◌^◌, ◌<◌, ◌≤◌, List, [], ◌∷◌, ◌++◌, length, drop, slice_get, Option, Some, None, Result, Ok, Err, ◌⊎◌}
use Rattle.rd_num.specs.declared.width.Width.TheVariants.{W32}
use Rattle.behavior.specs.Ending.{Going}
use Rattle.behavior.specs.System.{iter}
use Rattle.rd_io.specs.Causes.{Rose}
use Rattle.rd_io.specs.Outside.{Takes, Gets, Counts, IsPrefixOf, Appended, AppendedPart}
use Rattle.rd_io.specs.Told.{SourceTold, SinkTold}
use Rattle.rd_io.specs.declared.RunFault.{RunFault}
use Rattle.rd_io.specs.declared.RunFault.TheVariants as fault
use Rattle.ir_core.specs.declared.module.Module.{Module}
use Rattle.ir_core.specs.declared.memory.Value.{Value}
use Rattle.ir_core.specs.declared.memory.Value.TheVariants.{Num}
use Rattle.ir_core.specs.State as model
use Rattle.ir_core.specs.Stops.{ending_of}
use Rattle.ir_core.specs.Step.{source_step}
use Rattle.ir_core.specs.Run.{source_start}
use Rattle.ir_core.specs.declared.stop.Stop.{Stop}
use Rattle.ir_core.specs.declared.stop.Stop.TheVariants.{Malformed}
use Rattle.ir_core.specs.Answers.{stop_of}
use Rattle.ir_program.specs.declared.program.Program.{Program}
use Rattle.ir_program.specs.Programs.{program_of}
use Rattle.ir_run.specs.declared.state.State.{State}
use Rattle.ir_run.specs.declared.state.Asked.{Asked}
use Rattle.ir_run.specs.declared.state.Asked.TheVariants.{Nothing, Print, Take}
use Rattle.ir_run.specs.Turns.{Turned, gives, next_turn}
use Rattle.ir_run.specs.Standing.{StandsFor, FillsWide}
use Rattle.ir_run.specs.Agreement.{Agrees}

-- the value that a byte is given back as, or the end of the input
abbrev pub byte_value : Option ℕ → Value
byte_value (Some b) = Num W32 b
byte_value None = Num W32 (2 ^ 32 - 1)

-- a byte was taken, or the end was met, and given to a register
pub record TookTo (old : State) (into : Option ℕ) (new : State) (left left2 : Option (List ℕ)) : Type 0 where
  pub byte : Option ℕ
  pub taken : Takes {E = Unit {0}} left left2 (Ok byte)
  pub given : new ≡ gives old into (byte_value byte)

-- what was asked of the outside was done
abbrev pub Did : State → Asked → State → SourceTold → SourceTold → SinkTold → SinkTold → Type 0
Did old Nothing new a a2 b b2 = (new ≡ old) × (a2 ≡ a) × (b2 ≡ b)
Did old (Print byte) new a a2 b b2 = (new ≡ old) × (a2 ≡ a) × Appended b b2 (byte ∷ [])
Did old (Take into) new a a2 b b2 = TookTo old into new a.left a2.left × (b2 ≡ b)

-- what was asked of it was not done
abbrev pub Lacked : Asked → SourceTold → SourceTold → SinkTold → SinkTold → RunFault → Type 0
Lacked Nothing a a2 b b2 e = ⊥
Lacked (Print byte) a a2 b b2 fault.Input = ⊥
Lacked (Print byte) a a2 b b2 fault.Output = (a2 ≡ a) × AppendedPart b b2 (byte ∷ [])
Lacked (Print byte) a a2 b b2 fault.NoMemory = (a2 ≡ a) × AppendedPart b b2 (byte ∷ [])
Lacked (Take into) a a2 b b2 fault.Input = (a2.left ≡ a.left) × (b2 ≡ b)
Lacked (Take into) a a2 b b2 fault.Output = ⊥
Lacked (Take into) a a2 b b2 fault.NoMemory = ⊥

abbrev pub Exchanged : {T : Type 0} → State → Asked → State → SourceTold → SourceTold → SinkTold → SinkTold → Result T RunFault → Type 0
Exchanged old asked new a a2 b b2 (Ok x) = Did old asked new a a2 b b2
Exchanged old asked new a a2 b b2 (Err e) = Lacked asked a a2 b b2 e

-- counts of faults: a source's is raised where the answer is Input, a sink's where it is Output, and no other
abbrev pub Charged : {T : Type 0} → SourceTold → SourceTold → SinkTold → SinkTold → Result T RunFault → Type 0
Charged a a2 b b2 (Ok x) = (a2.faults ≡ a.faults) × (b2.faults ≡ b.faults)
Charged a a2 b b2 (Err fault.Input) = Rose a.faults a2.faults × (a.faults ≤ a2.faults) × (b2.faults ≡ b.faults)
Charged a a2 b b2 (Err fault.Output) = (a2.faults ≡ a.faults) × Rose b.faults b2.faults × (b.faults ≤ b2.faults)
Charged a a2 b b2 (Err fault.NoMemory) = (a2.faults ≡ a.faults) × (b2.faults ≡ b.faults)

-- a turn of a program with what it asks for
abbrev pub LackedIn : Program → State → SourceTold → SourceTold → SinkTold → SinkTold → RunFault → Type 0
LackedIn p old a a2 b b2 e = (t : Turned) × ((Ok t ≡ next_turn p old) × Lacked t.asked a a2 b b2 e)

-- one step: it goes on, stops the run, or the outside did not let it happen
unfoldable pub Stepped : Program → State → State → SourceTold → SourceTold → SinkTold → SinkTold → Result (Option Stop) RunFault → Type 0
Stepped p old new a a2 b b2 (Ok None) = (t : Turned) × ((Ok t ≡ next_turn p old) × Did t.state t.asked new a a2 b b2)
Stepped p old new a a2 b b2 (Ok (Some stop)) = (Err (stop_of stop) ≡ next_turn p old) × (a2 ≡ a) × (b2 ≡ b)
Stepped p old new a a2 b b2 (Err fault.Input) = LackedIn p old a a2 b b2 fault.Input
Stepped p old new a a2 b b2 (Err fault.Output) = LackedIn p old a a2 b b2 fault.Output
Stepped p old new a a2 b b2 (Err fault.NoMemory) = ((a2 ≡ a) × (b2 ≡ b)) ⊎ LackedIn p old a a2 b b2 fault.NoMemory

-- the state of the meaning after so many steps
abbrev pub state_after : Module → List ℕ → ℕ → model.State
state_after m input n = iter (source_step m input) n (source_start m)

-- since a time before, the outside has lost and got what a state says
pub record Exchanges (s : model.State) (input : List ℕ) (a : SourceTold) (b b2 : SinkTold) : Type 0 where
  pub left : a.left ≡ Some (drop s.taken input)
  pub written : Gets b.written b2.written s.printed
  pub total : Counts b.total b2.total (length s.printed)

-- a run that goes on
pub record Goes (m : Module) (input : List ℕ) (s : model.State) (st : State) (a : SourceTold) (b b2 : SinkTold) : Type 0 where
  pub going : s.ending ≡ Going
  pub stands : StandsFor m st s.frames s.objects
  pub outside : Exchanges s input a b b2

-- a state stands for the first one of the meaning
pub record StartsFor (m : Module) (st : State) : Type 0 where
  pub going : (source_start m).ending ≡ Going
  pub printed : (source_start m).printed ≡ []
  pub taken : (source_start m).taken ≡ 0
  pub stands : StandsFor m st (source_start m).frames (source_start m).objects

-- n steps of a program from a first state went on, where the input is told
unfoldable pub Followed : Program → State → ℕ → State → SourceTold → SourceTold → SinkTold → SinkTold → Type 0
Followed p start n st a a2 b b2 =
    (m : Module) (input : List ℕ) → Agrees m → p ≡ program_of m → StartsFor m start → a.left ≡ Some input → Goes m input (state_after m input n) st a2 b b2

-- the next step takes a byte of every input that has one there
abbrev pub AsksIn : Module → model.State → Type 0
AsksIn m s = (input : List ℕ) (b : ℕ) → slice_get input s.taken ≡ Some b → (source_step m input s).taken ≡ s.taken + 1

-- the next step prints a byte, of which the sink has got a part
pub record PrintsPart (m : Module) (input : List ℕ) (s : model.State) (a : SourceTold) (b b2 : SinkTold) : Type 0 where
  pub byte : ℕ
  pub prints : (source_step m input s).printed ≡ s.printed ++ byte ∷ []
  pub left : a.left ≡ Some (drop s.taken input)
  pub written : (part : List ℕ) × (IsPrefixOf part (byte ∷ []) × Gets b.written b2.written (s.printed ++ part))
  pub total : (count : ℕ) × ((count ≤ 1) × Counts b.total b2.total (length s.printed + count))

-- the outside did not let the next step happen, or memory was wanting
abbrev pub IsCut : Module → List ℕ → model.State → SourceTold → SinkTold → SinkTold → RunFault → Type 0
IsCut m input s a b b2 fault.Input = AsksIn m s × Exchanges s input a b b2
IsCut m input s a b b2 fault.Output = PrintsPart m input s a b b2
IsCut m input s a b b2 fault.NoMemory = Exchanges s input a b b2 ⊎ PrintsPart m input s a b b2

-- a run stands after n steps as the meaning has it; a module that isn't valid may come to what has no step
abbrev pub IsRun : Module → List ℕ → ℕ → SourceTold → SinkTold → SinkTold → Result (Option Stop) RunFault → Type 0
IsRun m input n a b b2 (Ok None) = ((state_after m input n).ending ≡ Going) × Exchanges (state_after m input n) input a b b2
IsRun m input n a b b2 (Ok (Some stop)) =
    (((state_after m input n).ending ≡ ending_of (stop_of stop)) × Exchanges (state_after m input n) input a b b2)
    ⊎ ((stop ≡ Malformed) × ((k : ℕ) × ((k < n) × FillsWide m (state_after m input k).frames)))
IsRun m input n a b b2 (Err e) = (k : ℕ) × ((k < n) × IsCut m input (state_after m input k) a b b2 e)

unfoldable pub Ran : Program → State → ℕ → SourceTold → SourceTold → SinkTold → SinkTold → Result (Option Stop) RunFault → Type 0
Ran p start n a a2 b b2 r = (m : Module) (input : List ℕ) → Agrees m → p ≡ program_of m → StartsFor m start → a.left ≡ Some input → IsRun m input n a2 b b2 r
