use Rattle.x86_rows.proofs.Leaves.{ud2, int3}
use Rattle.x86_rows.proofs.law.stops.Goals as goal

pub returns-clause-ud2 : goal.returns-clause-ud2
returns-clause-ud2 c = ud2

pub returns-clause-int3 : goal.returns-clause-int3
returns-clause-int3 c = int3
