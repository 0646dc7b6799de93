use Rattle.std.proofs.Common.{inr}
use Rattle.rd_top.proofs.commands.gen_text.Goals as goal

pub returns-in-Ok-clause-means : goal.returns-in-Ok-clause-means
returns-in-Ok-clause-means g c = inr (c.in-Ok.bytes, (c.in-Ok.ensures, c.put_whole.ensures.put))
