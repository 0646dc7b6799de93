use Rattle.x86_rows.proofs.Leaves.{load, store}
use Rattle.x86_rows.proofs.law.accesses.Goals as goal

pub returns-clause-load : goal.returns-clause-load
returns-clause-load c = load

pub returns-clause-store : goal.returns-clause-store
returns-clause-store c = store
