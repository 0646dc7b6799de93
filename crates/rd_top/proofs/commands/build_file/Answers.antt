use Rattle.std.proofs.Common.{inr}
use Rattle.rd_top.proofs.commands.build_file.Goals as goal

pub returns-in-Ok-image_bytes-clause-means : goal.returns-in-Ok-image_bytes-clause-means
returns-in-Ok-image_bytes-clause-means g c =
    inr (c.in-Ok.valid, (c.in-Ok.ensures.taken, inr (c.in-Ok-image_bytes.bytes, (c.in-Ok-image_bytes.ensures, c.put_whole.ensures.put))))
