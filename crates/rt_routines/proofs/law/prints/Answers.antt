use Rattle.rt_routines.proofs.Putchar.{is_putchar}
use Rattle.rt_routines.proofs.law.prints.Goals as goal

pub returns : goal.returns
returns h = λ o n k is found. is_putchar o n k is found
