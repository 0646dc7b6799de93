use Rattle.std.proofs.Common.{subst}
use Rattle.obj_core.specs.declared.object.Object.{Object}
use Rattle.guard_check.specs.Checking.{Judges}
use Rattle.guard_check.proofs.Wellness.{are_known, are_few, all_come, judged}
use Rattle.guard_check.proofs.check.first_of_checked.Goals as goal

pub first_fault-requires-clause-known : goal.first_fault-requires-clause-known
first_fault-requires-clause-known c = are_known c.object.result.now c.object.ensures.well_formed

pub first_fault-requires-clause-few : goal.first_fault-requires-clause-few
first_fault-requires-clause-few c = are_few c.object.result.now c.object.ensures.well_formed

pub first_fault-requires-clause-ways : goal.first_fault-requires-clause-ways
first_fault-requires-clause-ways c = all_come c.object.result.now c.object.ensures.well_formed

pub returns : goal.returns
returns c =
    subst (λ (o : Object). Judges o c.first_fault.result) c.object.ensures.value
    (judged c.object.result.now c.first_fault.result (are_known c.object.result.now c.object.ensures.well_formed) c.first_fault.ensures)
