-- The status, and what is put on the sink for messages.
use Rattle.std.specs.Prelude.{◌≡◌, ℕ, ◌⊎◌, List, [], ◌∷◌}
use Rattle.rd_io.specs.Causes.{Rose}
use Rattle.rd_io.specs.Outside.{Appended, AppendedPart}
use Rattle.rd_io.specs.Told.{SinkTold}
use Rattle.rd_top.specs.declared.answer.Answer.{Answer}
use Rattle.rd_top.specs.Answers.{status_number, line_of}

-- a line was put; or the sink failed, and a prefix of it was
abbrev pub Says : SinkTold → SinkTold → List ℕ → Type 0
Says err err2 line = Appended err err2 line ⊎ (Rose err.faults err2.faults × AppendedPart err err2 line)

-- memory was wanting for a line or its put: a prefix of it was put, and no call of the sink failed
abbrev pub IsCutShort : SinkTold → SinkTold → List ℕ → Type 0
IsCutShort err err2 line = (err2.faults ≡ err.faults) × AppendedPart err err2 line

-- a status with its line: where there is none, nothing at all is put; where there is one, a sink that fails changes no status
abbrev pub TellsLine : ℕ → ℕ → List ℕ → SinkTold → SinkTold → Type 0
TellsLine status n [] err err2 = (status ≡ n) × (err2 ≡ err)
TellsLine status n (c ∷ cs) err err2 = ((status ≡ n) × Says err err2 (c ∷ cs)) ⊎ ((status ≡ 11) × IsCutShort err err2 (c ∷ cs))

-- the status is the answer's and its line was said; 11 besides only where memory was wanting for the line
abbrev pub Tells : ℕ → Answer → SinkTold → SinkTold → Type 0
Tells status a err err2 = TellsLine status (status_number a) (line_of a) err err2
