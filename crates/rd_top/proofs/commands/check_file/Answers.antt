use Rattle.std.proofs.Common.{inr, refl}
use Rattle.rd_top.proofs.commands.check_file.Goals as goal

pub returns-in-Ok-clause-means : goal.returns-in-Ok-clause-means
returns-in-Ok-clause-means g c = inr (c.in-Ok._valid, (c.in-Ok.ensures.taken, refl))
