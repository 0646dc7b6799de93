use Rattle.std.proofs.Common.{[], ◌∙◌, ap, map}
use Rattle.ir_core.specs.declared.module.Block.{Block}
use Rattle.ir_core.specs.Definitions.{repeated}
use Rattle.ir_core.proofs.Distinct.{labels_differ}
use Rattle.ir_core.proofs.scope.Scope.new.Goals as goal

pub names_of-requires : goal.names_of-requires
names_of-requires c = ap (λ bs. repeated [] (map (λ (b : Block). b.label) bs)) c.as_slice.ensures ∙ labels_differ c.args.function.now c.requires

pub invariant_of-result : goal.invariant_of-result
invariant_of-result c = (c.in_ok-locals.ensures.named, c.in_ok-locals.ensures.known, c.in_ok-labels.ensures ∙ ap (map (λ (b : Block). b.label)) c.as_slice.ensures)
