use Rattle.rt_routines.proofs.Exit.{is_exit}
use Rattle.rt_routines.proofs.law.ends.Goals as goal

pub returns : goal.returns
returns h = λ o n k is found. is_exit o n k is found
