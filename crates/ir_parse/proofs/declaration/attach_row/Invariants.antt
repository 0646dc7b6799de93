use Rattle.std.proofs.Common.{◌≡◌, length}
use Rattle.ir_grammar.specs.Tokens.{kinds}
use Rattle.ir_grammar.specs.Parts.{skip}
use Rattle.ir_grammar.specs.Reading.{read}
use Rattle.ir_syntax.specs.Metadata.{attach}
use Rattle.ir_parse.proofs.declaration.attach_row.Given as goal

-- the rest is read as all were
abbrev pub invariant-attaches : goal.invariant-attaches
invariant-attaches l = read (skip attach) (kinds l.rest) ≡ read (skip attach) (kinds l.tokens)

abbrev pub decreases-attaches : goal.decreases-attaches
decreases-attaches l = length l.rest
