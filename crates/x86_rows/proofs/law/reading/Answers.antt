use Rattle.x86_rows.proofs.Reading.{read_range, read_refused}
use Rattle.x86_rows.proofs.law.reading.Goals as goal

pub returns-clause-allowed : goal.returns-clause-allowed
returns-clause-allowed c = read_range

pub returns-clause-refused : goal.returns-clause-refused
returns-clause-refused c = read_refused
