use Rattle.std.proofs.Common.{◌∙◌, ◌∷◌, [], sym, ap}
use Rattle.ir_core.specs.declared.limit.TheConstants.{MAX_INSTRUCTIONS}
use Rattle.ir_core.specs.declared.module.Function.{Function}
use Rattle.ir_core.specs.Counts.{told, steps_in}
use Rattle.ir_limits.specs.Past.{first_past}
use Rattle.ir_limits.proofs.PastLaws.{count_found, count_passed, count_ended}
use Rattle.ir_limits.proofs.steps.past_steps.Goals as goal

pub returns-in-Some : goal.returns-in-Some
returns-in-Some c =
    count_found MAX_INSTRUCTIONS (λ (f : Function). told (steps_in f.blocks)) c.args.functions.now c.loop-f.f-index _ c.loop-f.invariant
    c.f-item.result c.loop-f-test.true c.f-item.is c.in-Some.count
    (sym c.in-Some.is ∙ c.past.ensures ∙ ap (λ n. first_past MAX_INSTRUCTIONS (n ∷ [])) (c.steps.ensures ∙ ap (λ bs. told (steps_in bs)) c.as_slice.ensures))

pub loop-f-preserved : goal.loop-f-preserved
loop-f-preserved c =
    count_passed MAX_INSTRUCTIONS (λ (f : Function). told (steps_in f.blocks)) c.args.functions.now c.loop-f.f-index _ c.loop-f.invariant
    c.f-item.result c.loop-f-test.true c.f-item.is
    (sym c.in-None.is ∙ c.past.ensures ∙ ap (λ n. first_past MAX_INSTRUCTIONS (n ∷ [])) (c.steps.ensures ∙ ap (λ bs. told (steps_in bs)) c.as_slice.ensures))

pub returns : goal.returns
returns c = count_ended MAX_INSTRUCTIONS (λ (f : Function). told (steps_in f.blocks)) c.args.functions.now c.loop-f.f-index _ c.loop-f.invariant c.loop-f-test.false
