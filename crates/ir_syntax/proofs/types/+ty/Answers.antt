use Rattle.std.proofs.Common.{◌∙◌}
use Rattle.ir_grammar.specs.Tokens.{kinds}
use Rattle.ir_grammar.specs.Parts.{behind_comma}
use Rattle.ir_syntax.specs.Types.{type_at}
use Rattle.ir_syntax.proofs.FineTypes.{item-field}
use Rattle.ir_grammar.proofs.Rows.{shorter, more, comma_read}
use Rattle.ir_syntax.proofs.types.+ty.Goals as goal

pub more_fields-fields-smaller : goal.more_fields-fields-smaller
more_fields-fields-smaller t c =
    let g = type_at c.args.depth in
    shorter (behind_comma g) (item-field c.args.depth) c.fields.rest.now c.in_ok-field.behind.now c.in_ok-field.field
    (comma_read g c.in_ok-field.field (kinds c.fields.rest.now) (kinds c.in_ok-behind.behind.now) (kinds c.in_ok-field.behind.now) c.in_ok-behind.ensures c.in_ok-field.ensures)

pub more_fields-fields-preserved : goal.more_fields-fields-preserved
more_fields-fields-preserved t c =
    let g = type_at c.args.depth in
    more (behind_comma g) (item-field c.args.depth) c.fields.rest.now c.in_ok-field.behind.now c.in_ok-field.field
    (comma_read g c.in_ok-field.field (kinds c.fields.rest.now) (kinds c.in_ok-behind.behind.now) (kinds c.in_ok-field.behind.now) c.in_ok-behind.ensures c.in_ok-field.ensures)
    c.fields.all c.add.new.self c.in-Ok.ensures.put
    ∙ c.fields.invariant
