use Rattle.rt_routines.proofs.Getchar.{is_getchar}
use Rattle.rt_routines.proofs.law.takes.Goals as goal

pub returns : goal.returns
returns h = λ o n k is found. is_getchar o n k is found
