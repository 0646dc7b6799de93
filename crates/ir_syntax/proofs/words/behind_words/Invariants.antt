use Rattle.std.proofs.Common.{◌≡◌, length, map}
use Rattle.ir_grammar.specs.Tokens.{word, kinds}
use Rattle.ir_grammar.specs.Parts.{skip}
use Rattle.ir_grammar.specs.Reading.{read}
use Rattle.ir_syntax.specs.Words.{one_of}
use Rattle.ir_syntax.proofs.words.behind_words.Given as goal

-- the rest is read as all were
abbrev pub invariant-words : goal.invariant-words
invariant-words l = read (skip (one_of (map (λ w. word w.now) l.fn.words))) (kinds l.rest) ≡ read (skip (one_of (map (λ w. word w.now) l.fn.words))) (kinds l.fn.tokens)

abbrev pub decreases-words : goal.decreases-words
decreases-words l = length l.rest
