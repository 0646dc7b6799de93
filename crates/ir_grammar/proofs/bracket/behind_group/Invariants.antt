use Rattle.std.proofs.Common.{◌≡◌, [], ◌∷◌, length, reverse}
use Rattle.ir_grammar.specs.Tokens.{kinds}
use Rattle.ir_grammar.specs.Reading.{scan}
use Rattle.ir_grammar.proofs.bracket.behind_group.Given as goal

abbrev pub invariant-tokens : goal.invariant-tokens
invariant-tokens l = scan (kinds l.rest) (l.due ∷ reverse l.open.items) ≡ scan (kinds l.tokens) (l.close ∷ [])

abbrev pub decreases-tokens : goal.decreases-tokens
decreases-tokens l = length l.rest
