use Rattle.std.proofs.Common.{◌∙◌}
use Rattle.ir_grammar.specs.Tokens.{kinds}
use Rattle.ir_grammar.specs.Parts.{behind_comma}
use Rattle.ir_grammar.proofs.Rows.{shorter, more, comma_read}
use Rattle.ir_syntax.specs.Initialisers.{element, init_at}
use Rattle.ir_syntax.proofs.FineValues.{item-element, closed-init_at}
use Rattle.ir_syntax.proofs.initialiser.+init.Goals as goal

pub more_elements-elements-smaller : goal.more_elements-elements-smaller
more_elements-elements-smaller t c =
    let g = element (init_at c.args.depth) in
    shorter (behind_comma g) (item-element (init_at c.args.depth) (closed-init_at c.args.depth)) c.elements.rest.now c.in_ok-next.behind.now c.in_ok-next.next
    (comma_read g c.in_ok-next.next (kinds c.elements.rest.now) (kinds c.in_ok-behind.behind.now) (kinds c.in_ok-next.behind.now) c.in_ok-behind.ensures c.in_ok-next.ensures)

pub more_elements-elements-preserved : goal.more_elements-elements-preserved
more_elements-elements-preserved t c =
    let g = element (init_at c.args.depth) in
    more (behind_comma g) (item-element (init_at c.args.depth) (closed-init_at c.args.depth)) c.elements.rest.now c.in_ok-next.behind.now c.in_ok-next.next
    (comma_read g c.in_ok-next.next (kinds c.elements.rest.now) (kinds c.in_ok-behind.behind.now) (kinds c.in_ok-next.behind.now) c.in_ok-behind.ensures c.in_ok-next.ensures)
    c.elements.all c.add.new.self c.in-Ok.ensures.put
    ∙ c.elements.invariant
