use Rattle.x86_rows.proofs.Covers.{range_begins}
use Rattle.x86_rows.proofs.Numbers.{number_again}
use Rattle.x86_rows.proofs.law.numbers.Goals as goal

pub returns-clause-again : goal.returns-clause-again
returns-clause-again c = number_again

pub returns-clause-begins : goal.returns-clause-begins
returns-clause-begins c = range_begins
