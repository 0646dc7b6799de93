use Rattle.rt_routines.proofs.Memcpy.{is_memcpy}
use Rattle.rt_routines.proofs.law.copies.Goals as goal

pub returns : goal.returns
returns h = λ o n is. is_memcpy o n is
