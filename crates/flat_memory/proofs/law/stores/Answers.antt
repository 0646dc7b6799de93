use Rattle.flat_memory.proofs.Store.{store_law}
use Rattle.flat_memory.proofs.law.stores.Goals as goal

pub returns : goal.returns
returns c = store_law
