use Rattle.std.proofs.Common.{◌++◌, length}
use Rattle.obj_core.specs.Object.{field}
use Rattle.obj_file.proofs.Joined.{put_then}
use Rattle.obj_file.proofs.write.put_counts.Goals as goal

pub returns : goal.returns
returns c =
    let a = field (length c.args.o.now.functions) in
    let b = a ++ field (length c.args.o.now.slots) in
    let d = b ++ field (length c.args.o.now.ro) in
    let two = put_then _ a (field (length c.args.o.now.slots)) _ _ c.in_ok-put_length.ensures c.in_ok-put_length-2.ensures in
    let three = put_then _ b (field (length c.args.o.now.ro)) _ _ two c.in_ok-put_length-3.ensures in
    put_then _ d (field (length c.args.o.now.rw)) _ _ three c.in_ok-put_length-4.ensures
