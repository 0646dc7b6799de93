use Rattle.ir_core.specs.Valid.{inst_local}
use Rattle.ir_core.proofs.LocalLaws.{item_differs, rest_differs, names_more, kinds_more}
use Rattle.ir_core.proofs.scope.Locals.add_results.Goals as goal

pub add_result-requires : goal.add_result-requires
add_result-requires c = item_differs inst_local c.args.insts.now c.loop-i.i-index c.i-item.result c.loop-i-test.true c.i-item.is c.loop-i.self.names c.loop-i.invariant.left

pub loop-i-preserved : goal.loop-i-preserved
loop-i-preserved c = record {
  left = rest_differs inst_local c.args.insts.now c.loop-i.i-index c.i-item.result c.loop-i-test.true c.i-item.is c.loop-i.self.names _ c.loop-i.invariant.left c.in_ok-add_result.ensures.named;
  named = names_more inst_local c.args.insts.now c.loop-i.i-index c.i-item.result c.loop-i-test.true c.i-item.is _ c.loop-i.self.names _ c.loop-i.invariant.named c.in_ok-add_result.ensures.named;
  known = kinds_more inst_local c.args.insts.now c.loop-i.i-index c.i-item.result c.loop-i-test.true c.i-item.is _ c.loop-i.self.kinds _ c.loop-i.invariant.known c.in_ok-add_result.ensures.known;
}
