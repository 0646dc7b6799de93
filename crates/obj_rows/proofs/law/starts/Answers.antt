use Rattle.obj_rows.proofs.Start.{starts_standing, starts_with_stack}
use Rattle.obj_rows.proofs.law.starts.Goals as goal

pub returns-clause-start : goal.returns-clause-start
returns-clause-start c = starts_standing

pub returns-clause-memory : goal.returns-clause-memory
returns-clause-memory c = starts_with_stack
