use Rattle.std.proofs.Common.{◌≡◌, length}
use Rattle.ir_grammar.specs.Tokens.{kinds}
use Rattle.ir_grammar.specs.Reading.{read, put_row}
use Rattle.ir_syntax.specs.Instructions.{entry_rows}
use Rattle.ir_parse.proofs.instruction.more_entries.Given as goal

-- what is read so far, and of the rest, is what is read of all
abbrev pub invariant-commas : goal.invariant-commas
invariant-commas l = put_row l.all (read entry_rows (kinds l.rest)) ≡ put_row l.fn.entries (read entry_rows (kinds l.fn.tokens))

abbrev pub decreases-commas : goal.decreases-commas
decreases-commas l = length l.rest
