use Rattle.std.proofs.Common.{inr}
use Rattle.rd_top.proofs.commands.lay_file.Goals as goal

pub returns-in-Ok-laid_bytes-clause-means : goal.returns-in-Ok-laid_bytes-clause-means
returns-in-Ok-laid_bytes-clause-means g c =
    inr (c.in-Ok.object, (c.in-Ok.ensures.taken, inr (c.in-Ok-laid_bytes.bytes, (c.in-Ok-laid_bytes.ensures, c.put_whole.ensures.put))))
