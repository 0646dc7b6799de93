use Rattle.std.proofs.Common.{◌∙◌, ◌∷◌, [], sym, ap}
use Rattle.ir_core.specs.declared.limit.TheConstants.{MAX_FRAME}
use Rattle.ir_core.specs.Counts.{frame_count}
use Rattle.ir_limits.specs.Past.{first_past}
use Rattle.ir_limits.proofs.PastLaws.{count_found, count_passed, count_ended}
use Rattle.ir_limits.proofs.frame.past_frames.Goals as goal

pub returns-in-Some : goal.returns-in-Some
returns-in-Some c =
    count_found MAX_FRAME (frame_count c.args.sizes.now) c.args.functions.now c.loop-f.f-index _ c.loop-f.invariant
    c.f-item.result c.loop-f-test.true c.f-item.is c.in-Some.count
    (sym c.in-Some.is ∙ c.past.ensures ∙ ap (λ n. first_past MAX_FRAME (n ∷ [])) c.frame.ensures)

pub loop-f-preserved : goal.loop-f-preserved
loop-f-preserved c =
    count_passed MAX_FRAME (frame_count c.args.sizes.now) c.args.functions.now c.loop-f.f-index _ c.loop-f.invariant
    c.f-item.result c.loop-f-test.true c.f-item.is (sym c.in-None.is ∙ c.past.ensures ∙ ap (λ n. first_past MAX_FRAME (n ∷ [])) c.frame.ensures)

pub returns : goal.returns
returns c = count_ended MAX_FRAME (frame_count c.args.sizes.now) c.args.functions.now c.loop-f.f-index _ c.loop-f.invariant c.loop-f-test.false
