use Rattle.flat_memory.proofs.Frames.{alloca_law}
use Rattle.flat_memory.proofs.Named.{allocates_law}
use Rattle.flat_memory.proofs.law.allocates.Goals as goal

pub returns : goal.returns
returns c = record { tied = alloca_law; object = allocates_law }
