use Rattle.std.proofs.Common.{refl, ap, ◌∙◌, not, arith}
use Rattle.xom_machine.proofs.Changed.{silent_none, silent_more, silent_rest, silent_same, kernel_stop, want_stop}
use Rattle.xom_machine.proofs.context.Context.sprint.Goals as goal

pub loop-i-init : goal.loop-i-init
loop-i-init c = record { silent = silent_none _; same = λ e. refl }

pub returns-then-has_stopped-clause-silent : goal.returns-then-has_stopped-clause-silent
returns-then-has_stopped-clause-silent c =
    silent_rest c.loop-i.i c.args.n _ _ (omega arith) (c.has_stopped.ensures ∙ ap not c.if-has_stopped.true) c.loop-i.invariant.silent

pub returns-in-Ok-Some-clause-silent : goal.returns-in-Ok-Some-clause-silent
returns-in-Ok-Some-clause-silent c =
    let t = rw c.in-Ok-Some.field-0-is at c.in-Ok-Some.ensures in
    silent_same c.loop-i.i _ _ _ (kernel_stop _ _ _ _ t).0 c.loop-i.invariant.silent

pub returns-in-Ok-Some-clause-same : goal.returns-in-Ok-Some-clause-same
returns-in-Ok-Some-clause-same c =
    let t = rw c.in-Ok-Some.field-0-is at c.in-Ok-Some.ensures in
    λ e. (kernel_stop _ _ _ _ t).0 ∙ c.loop-i.invariant.same e

pub returns-in-Ok-Some-clause-stop : goal.returns-in-Ok-Some-clause-stop
returns-in-Ok-Some-clause-stop c =
    let t = rw c.in-Ok-Some.field-0-is at c.in-Ok-Some.ensures in
    (c.loop-i-test.true, (kernel_stop _ _ _ _ t).1)

pub returns-in-Err-clause-silent : goal.returns-in-Err-clause-silent
returns-in-Err-clause-silent c = silent_same c.loop-i.i _ _ _ (want_stop _ _ _ c.in-Err.ensures) c.loop-i.invariant.silent

pub returns-in-Err-clause-same : goal.returns-in-Err-clause-same
returns-in-Err-clause-same c = λ e. want_stop _ _ _ c.in-Err.ensures ∙ c.loop-i.invariant.same e

pub loop-i-preserved : goal.loop-i-preserved
loop-i-preserved c =
    let t = rw c.in-Ok-None.field-0-is at c.in-Ok-None.ensures in
    record {
      silent = silent_more _ c.loop-i.i _ _ _ c.loop-i.invariant.silent t;
      same = λ e. absurd (omega arith);
    }
