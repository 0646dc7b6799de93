use Rattle.flat_memory.proofs.Load.{load_law}
use Rattle.flat_memory.proofs.law.loads.Goals as goal

pub returns : goal.returns
returns c = load_law
