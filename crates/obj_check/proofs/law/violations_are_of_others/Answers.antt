use Rattle.obj_check.proofs.Unique.{violates}
use Rattle.obj_check.proofs.law.violations_are_of_others.Goals as goal

pub returns : goal.returns
returns c = violates
