use Rattle.std.proofs.Common.{◌++◌}
use Rattle.obj_core.specs.Object.{field}
use Rattle.obj_file.proofs.Joined.{put_then}
use Rattle.obj_file.proofs.write.put_slot_fields.Goals as goal

pub returns : goal.returns
returns c =
    let a = field c.args.kind in
    let b = a ++ field c.args.target in
    let d = b ++ field c.args.back.function in
    let two = put_then _ a (field c.args.target) _ _ c.in_ok-put_field.ensures c.in_ok-put_field-2.ensures in
    let three = put_then _ b (field c.args.back.function) _ _ two c.in_ok-put_field-3.ensures in
    put_then _ d (field c.args.back.offset) _ _ three c.in_ok-put_field-4.ensures
