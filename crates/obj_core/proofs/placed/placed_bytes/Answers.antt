use Rattle.std.proofs.Common.{rules}
use Rattle.obj_core.specs.Layout.{bytes_in}
use Rattle.obj_core.proofs.Padded.{placed_last}
use Rattle.obj_core.proofs.placed.placed_bytes.Goals as goal

pub returns : goal.returns
returns c = placed_last (bytes_in c.args.functions.now) c.loop-i.all c.pad-2.new.all _ c.loop-i.end c.loop-i.i c.args.starts.now c.args.order.now c.args.pieces.now (search rules) c.loop-i.invariant.bytes (search rules)
