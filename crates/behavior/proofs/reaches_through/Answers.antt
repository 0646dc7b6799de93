use Rattle.behavior.proofs.Laws.{reaches_within_trans}
use Rattle.behavior.proofs.reaches_through.Goals as goal

pub returns : goal.returns
returns c = reaches_within_trans
