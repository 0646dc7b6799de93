use Rattle.low_core.proofs.SelLaws.{sel_adds, sel_stays}
use Rattle.low_core.proofs.law.register_runs.Goals as goal

pub returns-clause-adds : goal.returns-clause-adds
returns-clause-adds c = sel_adds

pub returns-clause-stays : goal.returns-clause-stays
returns-clause-stays c = sel_stays
