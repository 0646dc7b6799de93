use Rattle.obj_check.proofs.Unique.{one_violation}
use Rattle.obj_check.proofs.law.one_violation_is_first.Goals as goal

pub returns : goal.returns
returns c = one_violation
