use Rattle.std.proofs.Common.{◌∙◌, sym}
use Rattle.ir_core.specs.Mentions.{parts_of}
use Rattle.ir_limits.specs.Past.{past_types}
use Rattle.ir_limits.proofs.PastLaws.{past_types-none, past_types-append, found, passed, ended}
use Rattle.ir_limits.proofs.gauge.+ty.Goals as goal

pub past_tys-returns-in-Some : goal.past_tys-returns-in-Some
past_tys-returns-in-Some t c =
    found (past_types c.args.gauge.now) (past_types-append c.args.gauge.now) parts_of c.args.types.now c.loop-ty.ty-index _ c.loop-ty.invariant
    c.ty-item.result c.loop-ty-test.true c.ty-item.is c.in-Some.count (sym c.in-Some.is ∙ c.past_ty.ensures)

pub past_tys-loop-ty-preserved : goal.past_tys-loop-ty-preserved
past_tys-loop-ty-preserved t c =
    passed (past_types c.args.gauge.now) (past_types-append c.args.gauge.now) parts_of c.args.types.now c.loop-ty.ty-index _ c.loop-ty.invariant
    c.ty-item.result c.loop-ty-test.true c.ty-item.is (sym c.in-None.is ∙ c.past_ty.ensures)

pub past_tys-returns : goal.past_tys-returns
past_tys-returns t c =
    ended (past_types c.args.gauge.now) (past_types-append c.args.gauge.now) parts_of c.args.types.now c.loop-ty.ty-index _ c.loop-ty.invariant
    c.loop-ty-test.false (past_types-none c.args.gauge.now)
