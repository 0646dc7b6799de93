use Rattle.rt_routines.proofs.Memset.{is_memset}
use Rattle.rt_routines.proofs.law.fills.Goals as goal

pub returns : goal.returns
returns h = λ o n is. is_memset o n is
