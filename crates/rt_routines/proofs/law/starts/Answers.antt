use Rattle.rt_routines.proofs.Start.{is_start}
use Rattle.rt_routines.proofs.law.starts.Goals as goal

pub returns : goal.returns
returns h = λ o n main k j is entry found ends few data_few input. is_start o n main k j is entry found ends few data_few input
