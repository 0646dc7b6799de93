use Rattle.std.proofs.Common.{◌∙◌}
use Rattle.ir_grammar.proofs.Rows.{shorter}
use Rattle.ir_syntax.specs.Items.{item}
use Rattle.ir_syntax.proofs.FineModule.{item-item}
use Rattle.ir_parse.proofs.ItemRows.{items_more}
use Rattle.ir_parse.proofs.module.module_text.Goals as goal

pub items-smaller : goal.items-smaller
items-smaller c = shorter item item-item c.items.rest.now c.in_ok-next.behind.now c.in_ok-next.next c.in_ok-next.ensures

pub items-preserved : goal.items-preserved
items-preserved c =
    items_more c.items.all c.in_ok-all.all c.in_ok-next.next c.items.rest.now c.in_ok-next.behind.now c.in_ok-next.ensures c.in_ok-all.ensures ∙ c.items.invariant
