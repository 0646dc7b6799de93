use Rattle.std.proofs.Common.{◌≡◌, length}
use Rattle.ir_grammar.specs.Tokens.{kinds}
use Rattle.ir_grammar.specs.Parts.{skip}
use Rattle.ir_grammar.specs.Reading.{read}
use Rattle.ir_syntax.specs.Parameters.{pattr}
use Rattle.ir_syntax.proofs.parameter.pattrs.Given as goal

-- the rest is read as all were
abbrev pub invariant-attributes : goal.invariant-attributes
invariant-attributes l = read (skip pattr) (kinds l.rest) ≡ read (skip pattr) (kinds l.tokens)

abbrev pub decreases-attributes : goal.decreases-attributes
decreases-attributes l = length l.rest
