use Rattle.obj_rows.proofs.Branches.{jumps, branches, falls}
use Rattle.obj_rows.proofs.law.branches.Goals as goal

pub returns-clause-jump : goal.returns-clause-jump
returns-clause-jump h = λ o n row off c out slot by is. jumps o n row is out off c slot by

pub returns-clause-taken : goal.returns-clause-taken
returns-clause-taken h = λ o n row off c out cond slot by is. branches o n row is out off c cond slot by

pub returns-clause-not_taken : goal.returns-clause-not_taken
returns-clause-not_taken h = λ o n row off c out cond slot by is. falls o n row is out off c cond slot by
