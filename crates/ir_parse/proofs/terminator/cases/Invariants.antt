use Rattle.std.proofs.Common.{◌≡◌, length}
use Rattle.ir_grammar.specs.Tokens.{kinds}
use Rattle.ir_grammar.specs.Grammar.{many}
use Rattle.ir_grammar.specs.Reading.{read, put_before}
use Rattle.ir_syntax.specs.Terminators.{case}
use Rattle.ir_parse.proofs.terminator.cases.Given as goal

-- what is read so far, and of the rest, is what is read of all
abbrev pub invariant-cases : goal.invariant-cases
invariant-cases l = put_before l.all (read (many case) (kinds l.rest)) ≡ read (many case) (kinds l.tokens)

abbrev pub decreases-cases : goal.decreases-cases
decreases-cases l = length l.rest
