use Rattle.flat_memory.proofs.Store.{copy_law}
use Rattle.flat_memory.proofs.law.copies.Goals as goal

pub returns : goal.returns
returns c = copy_law
