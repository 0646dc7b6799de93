use Rattle.x86_rows.proofs.Leaves.{push, pop}
use Rattle.x86_rows.proofs.law.stack.Goals as goal

pub returns-clause-push : goal.returns-clause-push
returns-clause-push c = push

pub returns-clause-pop : goal.returns-clause-pop
returns-clause-pop c = pop
