-- Arguments of the code as arguments.
use Rattle.std.specs.Prelude.{ℕ, List, Option, Some, None}
use denote.Ref.{Bor}
use Rattle.rd_words.specs.Read.{FileNumber}
use Rattle.rd_words.specs.Arguments.{Argument, File, Given}
use Rattle.rd_words.specs.declared.arguments.Part.{Part}
use Rattle.rd_words.specs.declared.arguments.Part.TheVariants as part

abbrev pub shown : Part → Argument
shown (part.File name) = File name.now
shown (part.Given option value) = Given option.now value.now

abbrev pub one_shown : Option (Bor (List ℕ) × ℕ) → Option FileNumber
one_shown None = None
one_shown (Some x) = Some (record { file = x.0.now; number = x.1 })
