use Rattle.std.proofs.Common.{◌≡◌, length}
use Rattle.ir_grammar.specs.Tokens.{kinds}
use Rattle.ir_grammar.specs.Parts.{skip, behind_comma}
use Rattle.ir_grammar.specs.Reading.{read}
use Rattle.ir_syntax.specs.Items.{global_tail}
use Rattle.ir_parse.proofs.item.global_tails.Given as goal

-- the rest is read as all were
abbrev pub invariant-tails : goal.invariant-tails
invariant-tails l = read (skip (behind_comma global_tail)) (kinds l.rest) ≡ read (skip (behind_comma global_tail)) (kinds l.tokens)

abbrev pub decreases-tails : goal.decreases-tails
decreases-tails l = length l.rest
