use Rattle.std.proofs.Common.{inr}
use Rattle.rd_top.proofs.commands.eval_file.Goals as goal

pub returns-clause-means : goal.returns-clause-means
returns-clause-means g c = inr (c.in-Ok.module, (c.in-Ok.ensures.taken, c.stream.ensures.streams))
