-- What the files, the input and the output tell, and which counts of faults an answer leaves.
use Rattle.std.specs.Prelude.{◌≡◌, ◌≢◌, ℕ, List, Some}
use Rattle.rd_io.specs.Told.{FilesTold, SourceTold, SinkTold}
use Rattle.rd_top.specs.declared.answer.Answer.{Answer}
use Rattle.rd_top.specs.declared.answer.Answer.TheVariants.{File, Out, Input}

-- all of the outside but the sink for messages
pub record World : Type 0 where
  pub files : FilesTold
  pub input : SourceTold
  pub out : SinkTold

abbrev pub world : FilesTold → SourceTold → SinkTold → World
world files input out = record { files = files; input = input; out = out }

-- every answer but that a file failed leaves all that the files tell: no read of another file failed
abbrev pub KeepsFiles : FilesTold → FilesTold → Answer → Type 0
KeepsFiles files files2 a = a ≢ File → files2 ≡ files

-- every answer but that the input failed leaves the count of its faults
abbrev pub KeepsInput : SourceTold → SourceTold → Answer → Type 0
KeepsInput input input2 a = a ≢ Input → input2.faults ≡ input.faults

-- every answer but that the output failed leaves the count of its faults
abbrev pub KeepsOut : SinkTold → SinkTold → Answer → Type 0
KeepsOut out out2 a = a ≢ Out → out2.faults ≡ out.faults

-- no fault was passed over
pub record KeepsCounts (before after : World) (a : Answer) : Type 0 where
  pub files : KeepsFiles before.files after.files a
  pub input : KeepsInput before.input after.input a
  pub out : KeepsOut before.out after.out a

-- what holds of the input, where it is told
abbrev pub WhereTold : SourceTold → (List ℕ → Type 0) → Type 0
WhereTold input Holds = (xs : List ℕ) → input.left ≡ Some xs → Holds xs
