use Rattle.ir_globals.proofs.Steps.{element_step, field_step, start_kept}
use Rattle.ir_globals.proofs.cells.+cells.Goals as goal

pub put_elements-loop-e-preserved : goal.put_elements-loop-e-preserved
put_elements-loop-e-preserved t c = element_step c.args.context.now c.args.elements.now c.loop-e.e-index c.e-item.result c.loop-e.cells.items _ _ c.loop-e-test.true c.e-item.is c.in_ok-put_init.ensures c.loop-e.invariant

pub put_fields-loop-e-preserved : goal.put_fields-loop-e-preserved
put_fields-loop-e-preserved t c = record {
  start = start_kept c.loop-e.cells.items _ _ _ c.loop-e.invariant.start c.in_ok-put_field.ensures;
  cells = field_step c.args.context.now c.args.elements.now c.loop-e.e-index c.e-item.result c.loop-e.cells.items _ _ _ _ c.loop-e-test.true c.e-item.is c.loop-e.invariant.start c.in_ok-put_field.ensures c.loop-e.invariant.cells;
}
