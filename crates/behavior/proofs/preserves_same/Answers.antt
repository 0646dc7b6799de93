use Rattle.behavior.proofs.Laws.{preserves_equal}
use Rattle.behavior.proofs.preserves_same.Goals as goal

pub returns : goal.returns
returns c = preserves_equal
