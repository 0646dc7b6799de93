use Rattle.flat_memory.proofs.Compare.{moved_law}
use Rattle.flat_memory.proofs.law.moves.Goals as goal

pub returns : goal.returns
returns c = moved_law
