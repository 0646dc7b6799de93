use Rattle.std.proofs.Common.{◌≡◌, ◌+◌, ◌-◌, ◌<◌, refl, inl, ◌∙◌, arith}
use Rattle.std.proofs.lemmas.Result.{err_from_is_err_and}
use Rattle.rd_io.specs.declared.RunFault.TheVariants as fault
use Rattle.xom_machine.proofs.Changed.{took_as, took_start, silent_took, kernel_ran}
use Rattle.xom_machine.proofs.Steps.{run_more, run_cut, cut_after}
use Rattle.xom_machine.proofs.context.Context.run.Goals as goal

pub loop-after-init : goal.loop-after-init
loop-after-init g c = record { left = omega arith; took = took_start _ _ _ (omega arith); source = refl; sink = refl }

pub returns-in-Done-clause-did : goal.returns-in-Done-clause-did
returns-in-Done-clause-did g c =
    let all : c.sprint-sprint.result.taken ≡ c.loop-after.left = rw c.in-Done.is at c.sprint-sprint.ensures.stop in
    silent_took (c.args.n - c.loop-after.left) c.sprint-sprint.result.taken c.args.n _ _ _ _ _ (omega (arith, c.loop-after.invariant.left)) c.loop-after.invariant.took c.sprint-sprint.ensures.silent

pub returns-in-NoMemory-clause-cut : goal.returns-in-NoMemory-clause-cut
returns-in-NoMemory-clause-cut g c =
    let few : c.sprint-sprint.result.taken < c.loop-after.left = rw c.in-NoMemory.is at c.sprint-sprint.ensures.stop in
    cut_after (c.args.n - c.loop-after.left + c.sprint-sprint.result.taken) c.args.n _ _ _ _ _ _ fault.NoMemory (omega (arith, c.loop-after.invariant.left))
    (silent_took (c.args.n - c.loop-after.left) c.sprint-sprint.result.taken _ _ _ _ _ _ refl c.loop-after.invariant.took c.sprint-sprint.ensures.silent) refl (inl refl)

pub returns-in_err-system_call-in-Kernel-clause-cut : goal.returns-in_err-system_call-in-Kernel-clause-cut
returns-in_err-system_call-in-Kernel-clause-cut g c =
    let stop = rw c.in-Kernel.is at c.sprint-sprint.ensures.stop in
    let few : c.sprint-sprint.result.taken < c.loop-after.left = stop.0 in
    let p = err_from_is_err_and c.from_residual.result c.from_residual.ensures.1 in
    rw (p.1, p.2) (run_cut _ (c.args.n - c.loop-after.left + c.sprint-sprint.result.taken) c.args.n _ _ _ _ _ _ _ (omega (arith, c.loop-after.invariant.left))
    (silent_took (c.args.n - c.loop-after.left) c.sprint-sprint.result.taken _ _ _ _ _ _ refl c.loop-after.invariant.took c.sprint-sprint.ensures.silent)
    (kernel_ran _ _ c.in-Kernel.after _ _ _ stop.1 c.in_err-system_call-in-Kernel.ensures.ran))

pub loop-after-preserved : goal.loop-after-preserved
loop-after-preserved g c =
    let stop = rw c.in-Kernel.is at c.sprint-sprint.ensures.stop in
    let few : c.sprint-sprint.result.taken < c.loop-after.left = stop.0 in
    let count : c.args.n - c.loop-after.left + c.sprint-sprint.result.taken + 1 ≡ c.args.n - (c.loop-after.left - c.sprint-sprint.result.taken - 1) = omega (arith, c.loop-after.invariant.left) in
    record {
      left = omega (arith, c.loop-after.invariant.left);
      took = took_as _ _ _ _ _ _ count (run_more (c.args.n - c.loop-after.left + c.sprint-sprint.result.taken) _ _ _ _ _ _ _
          (silent_took (c.args.n - c.loop-after.left) c.sprint-sprint.result.taken _ _ _ _ _ _ refl c.loop-after.invariant.took c.sprint-sprint.ensures.silent)
          (kernel_ran _ _ c.in-Kernel.after _ _ _ stop.1 c.in_ok-system_call-in-Kernel.ensures.ran));
      source = c.in_ok-system_call-in-Kernel.ensures.charged.0 ∙ c.loop-after.invariant.source;
      sink = c.in_ok-system_call-in-Kernel.ensures.charged.1 ∙ c.loop-after.invariant.sink;
    }
