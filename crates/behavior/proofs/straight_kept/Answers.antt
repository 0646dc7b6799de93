use Rattle.behavior.proofs.Laws.{straight_kept}
use Rattle.behavior.proofs.straight_kept.Goals as goal

pub returns : goal.returns
returns c = straight_kept
