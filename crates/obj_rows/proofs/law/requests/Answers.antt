use Rattle.obj_rows.proofs.Kernel.{asks_to_exit, asks_to_print, asks_to_take}
use Rattle.obj_rows.proofs.law.requests.Goals as goal

pub returns-clause-exit : goal.returns-clause-exit
returns-clause-exit c = asks_to_exit

pub returns-clause-print : goal.returns-clause-print
returns-clause-print c = asks_to_print

pub returns-clause-take : goal.returns-clause-take
returns-clause-take c = asks_to_take
