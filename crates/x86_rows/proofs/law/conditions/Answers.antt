use Rattle.x86_rows.proofs.Leaves.{set_cond, cmov, jcc_falls}
use Rattle.x86_rows.proofs.law.conditions.Goals as goal

pub returns-clause-set_cond : goal.returns-clause-set_cond
returns-clause-set_cond c = set_cond

pub returns-clause-cmov : goal.returns-clause-cmov
returns-clause-cmov c = cmov

pub returns-clause-jcc : goal.returns-clause-jcc
returns-clause-jcc c = jcc_falls
