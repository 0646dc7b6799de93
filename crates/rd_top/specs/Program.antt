-- The whole program: it does what the words ask for, and its status and its line tell how that went.
use Rattle.std.specs.Prelude.{ℕ, List, Option}
use Rattle.rd_io.specs.Told.{SinkTold}
use Rattle.rd_words.specs.Words.{Reading, IsReadingOf}
use Rattle.rd_top.specs.declared.answer.Answer.{Answer}
use Rattle.rd_top.specs.Commands.{Means}
use Rattle.rd_top.specs.Telling.{Tells}
use Rattle.rd_top.specs.World.{World, KeepsCounts}

-- what the words ask for was done, with this answer
pub record IsDone (words : List (List ℕ)) (before after : World) (a : Answer) : Type 0 where
  pub reading : Option Reading
  pub read : IsReadingOf words reading
  pub means : Means reading before after a

pub record IsAnswered (words : List (List ℕ)) (before after : World) (err err2 : SinkTold) (status : ℕ) : Type 0 where
  pub answer : Answer
  pub done : IsDone words before after answer
  pub keeps : KeepsCounts before after answer
  pub tells : Tells status answer err err2
