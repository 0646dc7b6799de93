use Rattle.std.proofs.Common.{◌≡◌, length, ◌+◌, ◌*◌}
use Rattle.ir_grammar.specs.Tokens.{kinds}
use Rattle.ir_grammar.specs.Grammar.{many}
use Rattle.ir_grammar.specs.Parts.{behind_comma}
use Rattle.ir_grammar.specs.Reading.{read, put_before}
use Rattle.ir_syntax.specs.Initialisers.{element, init_at}
use Rattle.ir_syntax.proofs.initialiser.+init.Given as goal

abbrev pub decreases-level : goal.decreases-level
decreases-level l = l.depth * 5

abbrev pub decreases-element : goal.decreases-element
decreases-element l = l.depth * 5 + 1

abbrev pub decreases-more_elements : goal.decreases-more_elements
decreases-more_elements l = l.depth * 5 + 2

abbrev pub decreases-elements : goal.decreases-elements
decreases-elements l = l.depth * 5 + 3

abbrev pub decreases-deep_init : goal.decreases-deep_init
decreases-deep_init l = l.depth * 5 + 4

-- the elements so far, and those that are read of the rest
abbrev pub invariant-more_elements-elements : goal.invariant-more_elements-elements
invariant-more_elements-elements l =
    put_before l.all (read (many (behind_comma (element (init_at l.depth)))) (kinds l.rest)) ≡ put_before l.fn.elements (read (many (behind_comma (element (init_at l.depth)))) (kinds l.fn.tokens))

abbrev pub decreases-more_elements-elements : goal.decreases-more_elements-elements
decreases-more_elements-elements l = length l.rest
