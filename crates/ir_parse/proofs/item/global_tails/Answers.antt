use Rattle.std.proofs.Common.{◌∙◌}
use Rattle.ir_grammar.specs.Tokens.{kinds}
use Rattle.ir_grammar.specs.Parts.{behind_comma}
use Rattle.ir_grammar.proofs.Rows.{shorter, skipped, comma_read}
use Rattle.ir_syntax.specs.Items.{global_tail}
use Rattle.ir_syntax.proofs.FineModule.{item-global_tail}
use Rattle.ir_parse.proofs.item.global_tails.Goals as goal

pub tails-smaller : goal.tails-smaller
tails-smaller c =
    shorter (behind_comma global_tail) item-global_tail c.tails.rest.now c.in_ok-rest.rest.now tt
    (comma_read global_tail tt (kinds c.tails.rest.now) (kinds c.in_ok-behind.behind.now) (kinds c.in_ok-rest.rest.now) c.in_ok-behind.ensures c.in_ok-rest.ensures)

pub tails-preserved : goal.tails-preserved
tails-preserved c =
    skipped (behind_comma global_tail) item-global_tail c.tails.rest.now c.in_ok-rest.rest.now tt
    (comma_read global_tail tt (kinds c.tails.rest.now) (kinds c.in_ok-behind.behind.now) (kinds c.in_ok-rest.rest.now) c.in_ok-behind.ensures c.in_ok-rest.ensures)
    ∙ c.tails.invariant
