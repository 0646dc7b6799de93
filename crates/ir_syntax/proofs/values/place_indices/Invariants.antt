use Rattle.std.proofs.Common.{◌≡◌, length}
use Rattle.ir_grammar.specs.Tokens.{kinds}
use Rattle.ir_grammar.specs.Grammar.{many}
use Rattle.ir_grammar.specs.Parts.{behind_comma}
use Rattle.ir_grammar.specs.Reading.{read, put_before}
use Rattle.ir_syntax.specs.Values.{place_index}
use Rattle.ir_syntax.proofs.values.place_indices.Given as goal

-- the indices so far, and those that are read of the rest
abbrev pub invariant-indices : goal.invariant-indices
invariant-indices l = put_before l.all (read (many (behind_comma place_index)) (kinds l.rest)) ≡ read (many (behind_comma place_index)) (kinds l.tokens)

abbrev pub decreases-indices : goal.decreases-indices
decreases-indices l = length l.rest
