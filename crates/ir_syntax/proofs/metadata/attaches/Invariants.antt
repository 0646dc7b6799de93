use Rattle.std.proofs.Common.{◌≡◌, length}
use Rattle.ir_grammar.specs.Tokens.{kinds}
use Rattle.ir_grammar.specs.Parts.{skip, behind_comma}
use Rattle.ir_grammar.specs.Reading.{read}
use Rattle.ir_syntax.specs.Metadata.{attach}
use Rattle.ir_syntax.proofs.metadata.attaches.Given as goal

-- the rest is read as all were
abbrev pub invariant-attaches : goal.invariant-attaches
invariant-attaches l = read (skip (behind_comma attach)) (kinds l.rest) ≡ read (skip (behind_comma attach)) (kinds l.tokens)

abbrev pub decreases-attaches : goal.decreases-attaches
decreases-attaches l = length l.rest
