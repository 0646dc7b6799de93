use Rattle.behavior.proofs.Laws.{preserves_straight}
use Rattle.behavior.proofs.preserves_straight.Goals as goal

pub returns : goal.returns
returns c = preserves_straight
