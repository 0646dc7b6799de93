use Rattle.std.proofs.Common.{◌≡◌, [], ◌++◌, ◌∙◌, ap, sym, subst}
use Rattle.ir_core.specs.declared.module.Block.{Block}
use Rattle.ir_core.specs.Definitions.{repeated}
use Rattle.ir_core.specs.Valid.{kinds_in, named_locals, local_kinds}
use Rattle.ir_core.proofs.LocalLaws.{item_differs, rest_differs, names_more, kinds_more}
use Rattle.ir_core.proofs.scope.Locals.add_blocks.Goals as goal

pub add_results-requires : goal.add_results-requires
add_results-requires c = subst (λ is. repeated c.loop-b.self.names (named_locals (kinds_in is)) ≡ []) (sym c.as_slice.ensures) (item_differs (λ (b : Block). kinds_in b.insts) c.args.blocks.now c.loop-b.b-index c.b-item.result c.loop-b-test.true c.b-item.is c.loop-b.self.names c.loop-b.invariant.left)

pub loop-b-preserved : goal.loop-b-preserved
loop-b-preserved c = record {
  left = rest_differs (λ (b : Block). kinds_in b.insts) c.args.blocks.now c.loop-b.b-index c.b-item.result c.loop-b-test.true c.b-item.is c.loop-b.self.names _ c.loop-b.invariant.left (c.in_ok-add_results.ensures.named ∙ ap (λ is. c.loop-b.self.names ++ named_locals (kinds_in is)) c.as_slice.ensures);
  named = names_more (λ (b : Block). kinds_in b.insts) c.args.blocks.now c.loop-b.b-index c.b-item.result c.loop-b-test.true c.b-item.is _ c.loop-b.self.names _ c.loop-b.invariant.named (c.in_ok-add_results.ensures.named ∙ ap (λ is. c.loop-b.self.names ++ named_locals (kinds_in is)) c.as_slice.ensures);
  known = kinds_more (λ (b : Block). kinds_in b.insts) c.args.blocks.now c.loop-b.b-index c.b-item.result c.loop-b-test.true c.b-item.is _ c.loop-b.self.kinds _ c.loop-b.invariant.known (c.in_ok-add_results.ensures.known ∙ ap (λ is. c.loop-b.self.kinds ++ local_kinds (kinds_in is)) c.as_slice.ensures);
}
