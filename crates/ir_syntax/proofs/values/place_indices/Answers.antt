use Rattle.std.proofs.Common.{◌∙◌}
use Rattle.ir_grammar.specs.Tokens.{kinds}
use Rattle.ir_grammar.specs.Parts.{behind_comma}
use Rattle.ir_grammar.proofs.Rows.{shorter, more, comma_read}
use Rattle.ir_syntax.specs.Values.{place_index}
use Rattle.ir_syntax.proofs.FineValues.{item-place_index}
use Rattle.ir_syntax.proofs.values.place_indices.Goals as goal

pub indices-smaller : goal.indices-smaller
indices-smaller c =
    shorter (behind_comma place_index) item-place_index c.indices.rest.now c.in_ok-index.behind.now c.in_ok-index.index
    (comma_read place_index c.in_ok-index.index (kinds c.indices.rest.now) (kinds c.in_ok-behind.behind.now) (kinds c.in_ok-index.behind.now) c.in_ok-behind.ensures c.in_ok-index.ensures)

pub indices-preserved : goal.indices-preserved
indices-preserved c =
    more (behind_comma place_index) item-place_index c.indices.rest.now c.in_ok-index.behind.now c.in_ok-index.index
    (comma_read place_index c.in_ok-index.index (kinds c.indices.rest.now) (kinds c.in_ok-behind.behind.now) (kinds c.in_ok-index.behind.now) c.in_ok-behind.ensures c.in_ok-index.ensures)
    c.indices.all c.add.new.self c.in-Ok.ensures.put
    ∙ c.indices.invariant
