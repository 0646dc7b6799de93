use Rattle.obj_core.proofs.Strays.{strays_after_acts, strays_after_steps}
use Rattle.obj_core.proofs.law.strays_stay.Goals as goal

pub returns-clause-acts : goal.returns-clause-acts
returns-clause-acts c = strays_after_acts

pub returns-clause-steps : goal.returns-clause-steps
returns-clause-steps c = strays_after_steps
