use Rattle.x86_rows.proofs.Leaves.{high, div, div_stops}
use Rattle.x86_rows.proofs.law.divisions.Goals as goal

pub returns-clause-high : goal.returns-clause-high
returns-clause-high c = high

pub returns-clause-answer : goal.returns-clause-answer
returns-clause-answer c = div

pub returns-clause-none : goal.returns-clause-none
returns-clause-none c = div_stops
