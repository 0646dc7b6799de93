use Rattle.flat_memory.proofs.Frames.{gone_law}
use Rattle.flat_memory.proofs.law.returns.Goals as goal

pub returns : goal.returns
returns c = gone_law
