use Rattle.flat_memory.proofs.Store.{fill_law}
use Rattle.flat_memory.proofs.law.fills.Goals as goal

pub returns : goal.returns
returns c = fill_law
