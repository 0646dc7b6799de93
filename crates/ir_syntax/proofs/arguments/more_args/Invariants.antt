use Rattle.std.proofs.Common.{◌≡◌, length}
use Rattle.ir_grammar.specs.Tokens.{kinds}
use Rattle.ir_grammar.specs.Grammar.{many}
use Rattle.ir_grammar.specs.Parts.{behind_comma}
use Rattle.ir_grammar.specs.Reading.{read, put_before}
use Rattle.ir_syntax.specs.Parameters.{arg}
use Rattle.ir_syntax.proofs.arguments.more_args.Given as goal

-- the arguments so far, and those that are read of the rest
abbrev pub invariant-commas : goal.invariant-commas
invariant-commas l = put_before l.all (read (many (behind_comma arg)) (kinds l.rest)) ≡ put_before l.fn.args (read (many (behind_comma arg)) (kinds l.fn.tokens))

abbrev pub decreases-commas : goal.decreases-commas
decreases-commas l = length l.rest
