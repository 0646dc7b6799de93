use Rattle.flat_memory.proofs.Compare.{compare_law}
use Rattle.flat_memory.proofs.law.compares.Goals as goal

pub returns : goal.returns
returns c = compare_law
