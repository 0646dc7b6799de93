-- Runs over an input and an output, step by step, and what each answer says of one.
use Rattle.std.specs.Prelude.{◌≡◌, ℕ, ◌+◌, ◌<◌, ◌≤◌, ◌⊎◌, List, ◌++◌, length, Some, Result, Ok, Err}
use Rattle.behavior.specs.Ending.{Ending}
use Rattle.rd_io.specs.Causes.{Rose}
use Rattle.rd_io.specs.Outside.{Gets, Counts, IsPrefixOf}
use Rattle.rd_io.specs.Told.{SourceTold, SinkTold}
use Rattle.rd_io.specs.declared.RunFault.{RunFault}
use Rattle.rd_io.specs.declared.RunFault.TheVariants as fault
use Rattle.rd_top.specs.declared.answer.Outcome.{Outcome}
use Rattle.rd_top.specs.declared.answer.Answer.{Answer}
use Rattle.rd_top.specs.declared.answer.Answer.TheVariants.{Ran, Out, Input, Memory}
use Rattle.rd_top.specs.Answers.{ending_from}
use Rattle.rd_top.specs.World.{WhereTold}

-- a point of a run: the input that is left, what was printed, and how it stands; and what the next step prints alone, and
-- how many bytes it takes of an input that has one
pub record Point : Type 0 where
  pub left : List ℕ
  pub printed : List ℕ
  pub ending : Ending
  pub prints : List ℕ
  pub takes : ℕ

-- a run: by the input and the number of steps
abbrev pub Course : Type 0
Course = List ℕ → ℕ → Point

-- the input has lost and the output has got what the run took and printed up to a point
pub record Reached (p : Point) (input2 : SourceTold) (out out2 : SinkTold) : Type 0 where
  pub left : input2.left ≡ Some p.left
  pub written : Gets out.written out2.written p.printed
  pub total : Counts out.total out2.total (length p.printed)

-- n steps were taken, and the run stands with this outcome
pub record IsRun (course : Course) (n : ℕ) (xs : List ℕ) (outcome : Outcome) (input2 : SourceTold) (out out2 : SinkTold) : Type 0 where
  pub ending : (course xs n).ending ≡ ending_from outcome
  pub reached : Reached (course xs n) input2 out out2

-- the input failed at a step that takes a byte, and all before was done
pub record IsCutByInput (course : Course) (n : ℕ) (xs : List ℕ) (input2 : SourceTold) (out out2 : SinkTold) : Type 0 where
  pub steps : ℕ
  pub early : steps < n
  pub asks : (course xs steps).takes ≡ 1
  pub reached : Reached (course xs steps) input2 out out2

-- a prefix of what a step prints, which is at least one byte, came out, and all before was done
pub record IsCutByOutput (course : Course) (n : ℕ) (xs : List ℕ) (input2 : SourceTold) (out out2 : SinkTold) : Type 0 where
  pub steps : ℕ
  pub early : steps < n
  pub some : 0 < length (course xs steps).prints
  pub left : input2.left ≡ Some (course xs steps).left
  pub part : List ℕ
  pub begins : IsPrefixOf part (course xs steps).prints
  pub written : Gets out.written out2.written ((course xs steps).printed ++ part)
  pub count : ℕ
  pub few : count ≤ length (course xs steps).prints
  pub total : Counts out.total out2.total (length (course xs steps).printed + count)

-- memory was wanting for a step, of which nothing was done, and all before was done
pub record IsCutByMemory (course : Course) (n : ℕ) (xs : List ℕ) (input2 : SourceTold) (out out2 : SinkTold) : Type 0 where
  pub steps : ℕ
  pub early : steps < n
  pub reached : Reached (course xs steps) input2 out out2

-- every input
abbrev pub AnyInput : List ℕ → Type 0
AnyInput xs = Unit {0}

-- what holds of the input, where it is told and is one of which the run is known
abbrev pub WhereRead : (List ℕ → Type 0) → SourceTold → (List ℕ → Type 0) → Type 0
WhereRead Reads input Holds = WhereTold input (λ xs. Reads xs → Holds xs)

-- the answer of a run that reached its end, or of its fault
abbrev pub run_answer : Result Outcome RunFault → Answer
run_answer (Ok outcome) = Ran outcome
run_answer (Err fault.Input) = Input
run_answer (Err fault.Output) = Out
run_answer (Err fault.NoMemory) = Memory

-- what each answer says of a run whose output comes out as it is printed
abbrev pub Streams : (List ℕ → Type 0) → Course → ℕ → SourceTold → SourceTold → SinkTold → SinkTold → Answer → Type 0
Streams Reads course n input input2 out out2 (Ran outcome) = WhereRead Reads input (λ xs. IsRun course n xs outcome input2 out out2)
Streams Reads course n input input2 out out2 Input = Rose input.faults input2.faults × WhereRead Reads input (λ xs. IsCutByInput course n xs input2 out out2)
Streams Reads course n input input2 out out2 Out = Rose out.faults out2.faults × WhereRead Reads input (λ xs. IsCutByOutput course n xs input2 out out2)
Streams Reads course n input input2 out out2 Memory =
    ((input2 ≡ input) × (out2 ≡ out)) ⊎ WhereRead Reads input (λ xs. IsCutByMemory course n xs input2 out out2 ⊎ IsCutByOutput course n xs input2 out out2)
Streams Reads course n input input2 out out2 other = ⊥
