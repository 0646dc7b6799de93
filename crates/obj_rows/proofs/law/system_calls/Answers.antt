use Rattle.obj_rows.proofs.Kernel.{exits, prints, takes, takes_none}
use Rattle.obj_rows.proofs.Slots.{system_returns}
use Rattle.obj_rows.proofs.law.system_calls.Goals as goal

pub returns-clause-exit : goal.returns-clause-exit
returns-clause-exit c = exits

pub returns-clause-print : goal.returns-clause-print
returns-clause-print h = λ o out k c back count at found. prints o out k c back found count at

pub returns-clause-take : goal.returns-clause-take
returns-clause-take h = λ o out k c back at b bs found. takes o out k c back found at b bs

pub returns-clause-take_none : goal.returns-clause-take_none
returns-clause-take_none h = λ o out k c back at found. takes_none o out k c back found at

pub returns-clause-back : goal.returns-clause-back
returns-clause-back c = system_returns
