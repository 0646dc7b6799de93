use Rattle.std.proofs.Common.{◌<◌, refl, arith}
use Rattle.xom_machine.proofs.Changed.{silent_alone, kernel_first}
use Rattle.xom_machine.proofs.Served.{done_alone, wanted}
use Rattle.xom_machine.proofs.context.Context.advance.Goals as goal

pub returns-in-Done-clause-ran : goal.returns-in-Done-clause-ran
returns-in-Done-clause-ran g c =
    let one = rw c.in-Done.is at c.sprint-sprint.ensures.stop in
    done_alone _ _ _ _ _ refl (silent_alone _ _ c.sprint-sprint.result.taken one c.sprint-sprint.ensures.silent)

pub returns-in-Kernel-clause-ran : goal.returns-in-Kernel-clause-ran
returns-in-Kernel-clause-ran g c =
    let stop = rw c.in-Kernel.is at c.sprint-sprint.ensures.stop in
    let few : c.sprint-sprint.result.taken < 1 = stop.0 in
    kernel_first _ _ _ c.in-Kernel.after _ _ _ (c.sprint-sprint.ensures.same (omega arith)) stop.1 c.system_call.ensures.ran

pub returns-in-NoMemory-clause-ran : goal.returns-in-NoMemory-clause-ran
returns-in-NoMemory-clause-ran g c =
    let few : c.sprint-sprint.result.taken < 1 = rw c.in-NoMemory.is at c.sprint-sprint.ensures.stop in
    wanted _ _ _ _ _ (c.sprint-sprint.ensures.same (omega arith)) refl
