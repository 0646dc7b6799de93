use Rattle.std.proofs.Common.{◌∙◌, subst}
use Rattle.std.specs.List.{flat_map}
use Rattle.std.proofs.lemmas.List.{take_all}
use Rattle.ir_core.specs.Mentions.{of_function}
use Rattle.ir_names.specs.Outer.{Uses}
use Rattle.ir_names.proofs.UseLaws.{uses_none, uses_function}
use Rattle.ir_names.proofs.external.note_functions.Goals as goal

pub loop-f-init : goal.loop-f-init
loop-f-init c = uses_none c.args.names.now

pub loop-f-preserved : goal.loop-f-preserved
loop-f-preserved c =
    uses_function c.args.functions.now c.loop-f.f-index c.f-item.result c.loop-f-test.true c.f-item.is c.args.names.now c.loop-f.names c.note_mentions.new.names c.loop-f.invariant
    (subst (λ ms. Uses c.loop-f.names c.note_mentions.new.names ms) (c.as_slice.ensures ∙ c.in_ok-mentions.ensures) c.in_ok-note_mentions.ensures)

pub returns : goal.returns
returns c = subst (λ fs. Uses c.args.names.now c.loop-f.names (flat_map of_function fs)) (take_all c.loop-f.f-index c.args.functions.now c.loop-f-test.false) c.loop-f.invariant
