use Rattle.flat_memory.proofs.Named.{names_law}
use Rattle.flat_memory.proofs.law.names.Goals as goal

pub returns : goal.returns
returns c = names_law
