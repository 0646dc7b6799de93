use Rattle.std.proofs.Common.{inr}
use Rattle.rd_top.proofs.commands.compile_file.Goals as goal

pub returns-in-Ok-object_bytes-clause-means : goal.returns-in-Ok-object_bytes-clause-means
returns-in-Ok-object_bytes-clause-means g c =
    inr (c.in-Ok.valid, (c.in-Ok.ensures.taken, inr (c.in-Ok-object_bytes.bytes, (c.in-Ok-object_bytes.ensures, c.put_whole.ensures.put))))
