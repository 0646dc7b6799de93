-- Texts on a run whose output nobody gets, made first and put at once.
use Rattle.std.specs.Prelude.{◌≡◌, ℕ, ◌<◌, ◌≤◌, ◌⊎◌, List, Some, Result, Ok, Err}
use Rattle.rd_io.specs.Causes.{Rose}
use Rattle.rd_io.specs.Told.{SourceTold, SinkTold}
use Rattle.rd_io.specs.declared.RunFault.{RunFault}
use Rattle.rd_io.specs.declared.RunFault.TheVariants as fault
use Rattle.rd_top.specs.declared.answer.Answer.{Answer}
use Rattle.rd_top.specs.declared.answer.Answer.TheVariants.{Input, Memory}
use Rattle.rd_top.specs.Courses.{Course}
use Rattle.rd_top.specs.Puts.{PutsWhole}
use Rattle.rd_top.specs.World.{WhereTold}

-- the input has lost what the run took in a number of steps
abbrev pub HasTaken : Course → List ℕ → ℕ → SourceTold → Type 0
HasTaken course xs n input2 = input2.left ≡ Some (course xs n).left

-- the input failed at a step that takes a byte, and all before was done
pub record StopsAtInput (course : Course) (n : ℕ) (xs : List ℕ) (input2 : SourceTold) : Type 0 where
  pub steps : ℕ
  pub early : steps < n
  pub asks : (course xs steps).takes ≡ 1
  pub took : HasTaken course xs steps input2

-- memory was wanting after some of the steps
pub record StopsWithin (course : Course) (n : ℕ) (xs : List ℕ) (input2 : SourceTold) : Type 0 where
  pub steps : ℕ
  pub within : steps ≤ n
  pub took : HasTaken course xs steps input2

-- the text after n steps, or why there is none; a sink that gets nothing doesn't fail
abbrev pub Reported : Course → ℕ → (List ℕ → List ℕ) → SourceTold → SourceTold → Result (List ℕ) RunFault → Type 0
Reported course n text_on input input2 (Ok text) = WhereTold input (λ xs. (text ≡ text_on xs) × HasTaken course xs n input2)
Reported course n text_on input input2 (Err fault.Input) = Rose input.faults input2.faults × WhereTold input (λ xs. StopsAtInput course n xs input2)
Reported course n text_on input input2 (Err fault.NoMemory) = WhereTold input (λ xs. StopsWithin course n xs input2)
Reported course n text_on input input2 (Err fault.Output) = ⊥

-- why there is no text
abbrev pub NotReported : Course → ℕ → SourceTold → SourceTold → Answer → Type 0
NotReported course n input input2 Input = Rose input.faults input2.faults × WhereTold input (λ xs. StopsAtInput course n xs input2)
NotReported course n input input2 Memory = WhereTold input (λ xs. StopsWithin course n xs input2)
NotReported course n input input2 other = ⊥

-- there is no text, and nothing was put; or it was made, and put
abbrev pub Reports : Course → ℕ → (List ℕ → List ℕ) → SourceTold → SourceTold → SinkTold → SinkTold → Answer → Type 0
Reports course n text_on input input2 out out2 a =
    (NotReported course n input input2 a × (out2 ≡ out)) ⊎
    ((text : List ℕ) × (WhereTold input (λ xs. (text ≡ text_on xs) × HasTaken course xs n input2) × PutsWhole text out out2 a))
