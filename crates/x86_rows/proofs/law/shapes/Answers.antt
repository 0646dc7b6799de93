use Rattle.x86_rows.proofs.Shapes.{has_same, one_same, disjoint_same}
use Rattle.x86_rows.proofs.law.shapes.Goals as goal

pub returns-clause-addresses : goal.returns-clause-addresses
returns-clause-addresses c = has_same

pub returns-clause-rights : goal.returns-clause-rights
returns-clause-rights c = one_same

pub returns-clause-apart : goal.returns-clause-apart
returns-clause-apart c = disjoint_same
