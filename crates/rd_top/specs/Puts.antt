-- Bytes that are made first and put at once.
use Rattle.std.specs.Prelude.{◌≡◌, ◌⊎◌, ℕ, List}
use Rattle.rd_io.specs.Causes.{Rose}
use Rattle.rd_io.specs.Outside.{Appended, AppendedPart}
use Rattle.rd_io.specs.Told.{SinkTold}
use Rattle.rd_top.specs.declared.answer.Answer.{Answer}
use Rattle.rd_top.specs.declared.answer.Answer.TheVariants.{Done, Out, Memory}

-- what each answer says of a put
abbrev pub PutsWhole : List ℕ → SinkTold → SinkTold → Answer → Type 0
PutsWhole bytes out out2 Done = Appended out out2 bytes
PutsWhole bytes out out2 Out = Rose out.faults out2.faults × AppendedPart out out2 bytes
PutsWhole bytes out out2 Memory = AppendedPart out out2 bytes
PutsWhole bytes out out2 other = ⊥

-- memory was wanting before anything was put; or bytes as they should be were made, and put
abbrev pub Writes : (List ℕ → Type 0) → SinkTold → SinkTold → Answer → Type 0
Writes IsMade out out2 a = ((a ≡ Memory) × (out2 ≡ out)) ⊎ ((bytes : List ℕ) × (IsMade bytes × PutsWhole bytes out out2 a))
