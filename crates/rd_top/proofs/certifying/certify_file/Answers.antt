use Rattle.std.proofs.Common.{inr}
use Rattle.rd_top.proofs.certifying.certify_file.Goals as goal

pub returns-in-Ok-clause-means : goal.returns-in-Ok-clause-means
returns-in-Ok-clause-means g c = inr (c.in-Ok.object, (c.in-Ok.ensures.taken, c.certified.ensures))
