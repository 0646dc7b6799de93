use Rattle.std.proofs.Common.{◌≡◌, length, ◌+◌, ◌*◌}
use Rattle.ir_grammar.specs.Tokens.{kinds}
use Rattle.ir_grammar.specs.Grammar.{many}
use Rattle.ir_grammar.specs.Reading.{read, put_before}
use Rattle.ir_grammar.specs.Parts.{behind_comma}
use Rattle.ir_syntax.specs.Types.{type_at}
use Rattle.ir_syntax.proofs.types.+ty.Given as goal

abbrev pub decreases-array : goal.decreases-array
decreases-array l = l.depth * 4 + 3

abbrev pub decreases-more_fields : goal.decreases-more_fields
decreases-more_fields l = l.depth * 4 + 1

abbrev pub decreases-structure : goal.decreases-structure
decreases-structure l = l.depth * 4 + 3

abbrev pub decreases-ty : goal.decreases-ty
decreases-ty l = l.depth * 4

-- the fields so far, and those that are read of the rest
abbrev pub invariant-more_fields-fields : goal.invariant-more_fields-fields
invariant-more_fields-fields l =
    put_before l.all (read (many (behind_comma (type_at l.depth))) (kinds l.rest)) ≡ put_before l.fn.fields (read (many (behind_comma (type_at l.depth))) (kinds l.fn.tokens))

abbrev pub decreases-more_fields-fields : goal.decreases-more_fields-fields
decreases-more_fields-fields l = length l.rest

abbrev pub decreases-fields : goal.decreases-fields
decreases-fields l = l.depth * 4 + 2
