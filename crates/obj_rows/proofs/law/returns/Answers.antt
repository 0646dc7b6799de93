use Rattle.obj_rows.proofs.Branches.{returns as goes_back, returns_astray, follows, follows_astray}
use Rattle.obj_rows.proofs.law.returns.Goals as goal

pub returns-clause-lands : goal.returns-clause-lands
returns-clause-lands h = λ o n row off c out slot at w p is. goes_back o n row is out off c slot at w p

pub returns-clause-astray : goal.returns-clause-astray
returns-clause-astray h = λ o n row off c out slot at w is. returns_astray o n row is out off c slot at w

pub returns-clause-follows : goal.returns-clause-follows
returns-clause-follows h = λ o n row off c out slot p is. follows o n row is out off c slot p

pub returns-clause-follows_astray : goal.returns-clause-follows_astray
returns-clause-follows_astray h = λ o n row off c out slot is. follows_astray o n row is out off c slot
