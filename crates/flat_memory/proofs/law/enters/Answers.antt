use Rattle.flat_memory.proofs.Frames.{made_law}
use Rattle.flat_memory.proofs.Named.{off_law}
use Rattle.flat_memory.proofs.law.enters.Goals as goal

pub returns : goal.returns
returns c = record { tied = made_law; off = off_law }
