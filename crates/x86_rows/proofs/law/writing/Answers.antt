use Rattle.x86_rows.proofs.Writing.{write_range, write_refused}
use Rattle.x86_rows.proofs.law.writing.Goals as goal

pub returns-clause-allowed : goal.returns-clause-allowed
returns-clause-allowed c = write_range

pub returns-clause-refused : goal.returns-clause-refused
returns-clause-refused c = write_refused
