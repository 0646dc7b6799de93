use Rattle.std.proofs.Common.{◌≡◌, length}
use Rattle.ir_grammar.specs.Tokens.{kinds}
use Rattle.ir_grammar.specs.Grammar.{many}
use Rattle.ir_grammar.specs.Reading.{read, put_before}
use Rattle.ir_syntax.specs.Functions.{labelled}
use Rattle.ir_parse.proofs.block.more_blocks.Given as goal

-- the blocks so far, and those that are read of the rest
abbrev pub invariant-labels : goal.invariant-labels
invariant-labels l = put_before l.all (read (many labelled) (kinds l.rest)) ≡ put_before l.fn.blocks (read (many labelled) (kinds l.fn.tokens))

abbrev pub decreases-labels : goal.decreases-labels
decreases-labels l = length l.rest
