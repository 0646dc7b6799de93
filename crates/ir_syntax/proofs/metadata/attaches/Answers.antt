use Rattle.std.proofs.Common.{◌∙◌}
use Rattle.ir_grammar.specs.Tokens.{kinds}
use Rattle.ir_grammar.specs.Parts.{behind_comma}
use Rattle.ir_grammar.proofs.Rows.{shorter, skipped, comma_read}
use Rattle.ir_syntax.specs.Metadata.{attach}
use Rattle.ir_syntax.proofs.FineValues.{item-attach}
use Rattle.ir_syntax.proofs.metadata.attaches.Goals as goal

pub attaches-smaller : goal.attaches-smaller
attaches-smaller c =
    shorter (behind_comma attach) item-attach c.attaches.rest.now c.in_ok-rest.rest.now tt
    (comma_read attach tt (kinds c.attaches.rest.now) (kinds c.in_ok-behind.behind.now) (kinds c.in_ok-rest.rest.now) c.in_ok-behind.ensures c.in_ok-rest.ensures)

pub attaches-preserved : goal.attaches-preserved
attaches-preserved c =
    skipped (behind_comma attach) item-attach c.attaches.rest.now c.in_ok-rest.rest.now tt
    (comma_read attach tt (kinds c.attaches.rest.now) (kinds c.in_ok-behind.behind.now) (kinds c.in_ok-rest.rest.now) c.in_ok-behind.ensures c.in_ok-rest.ensures)
    ∙ c.attaches.invariant
