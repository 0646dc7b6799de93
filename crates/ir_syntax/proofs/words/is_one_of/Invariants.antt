use Rattle.std.proofs.Common.{◌≡◌, map, drop}
use Rattle.ir_grammar.specs.Tokens.{word, has, sort_of}
use Rattle.ir_syntax.proofs.words.is_one_of.Given as goal

-- none of the words so far
abbrev pub invariant-loop-text : goal.invariant-loop-text
invariant-loop-text l = has (map (λ w. word w.now) (drop l.text-index l.words)) (sort_of l.kind) ≡ has (map (λ w. word w.now) l.words) (sort_of l.kind)
