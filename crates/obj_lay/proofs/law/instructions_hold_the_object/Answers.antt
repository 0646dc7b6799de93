use Rattle.obj_lay.proofs.lockstep.Closed.{instrs_held}
use Rattle.obj_lay.proofs.law.instructions_hold_the_object.Goals as goal

pub returns : goal.returns
returns c exec place o well laid = instrs_held o well exec place laid
