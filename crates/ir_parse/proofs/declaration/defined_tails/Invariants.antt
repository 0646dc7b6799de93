use Rattle.std.proofs.Common.{◌≡◌, length}
use Rattle.ir_grammar.specs.Tokens.{kinds}
use Rattle.ir_grammar.specs.Parts.{skip}
use Rattle.ir_grammar.specs.Reading.{read}
use Rattle.ir_syntax.specs.Functions.{defined_tail}
use Rattle.ir_parse.proofs.declaration.defined_tails.Given as goal

-- the rest is read as all were
abbrev pub invariant-tails : goal.invariant-tails
invariant-tails l = read (skip defined_tail) (kinds l.rest) ≡ read (skip defined_tail) (kinds l.tokens)

abbrev pub decreases-tails : goal.decreases-tails
decreases-tails l = length l.rest
