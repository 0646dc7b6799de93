use Rattle.std.proofs.Common.{◌≡◌, length}
use Rattle.ir_grammar.specs.Tokens.{kinds}
use Rattle.ir_grammar.specs.Parts.{skip}
use Rattle.ir_grammar.specs.Reading.{read}
use Rattle.ir_syntax.specs.Instructions.{call_attribute}
use Rattle.ir_parse.proofs.call.call_tail.Given as goal

-- the rest is read as all were
abbrev pub invariant-attributes : goal.invariant-attributes
invariant-attributes l = read (skip call_attribute) (kinds l.rest) ≡ read (skip call_attribute) (kinds l.tokens)

abbrev pub decreases-attributes : goal.decreases-attributes
decreases-attributes l = length l.rest
