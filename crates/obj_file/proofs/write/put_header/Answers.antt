use Rattle.std.proofs.Common.{◌++◌, length}
use Rattle.rd_num.specs.Number.{le_bytes}
use Rattle.obj_core.specs.Object.{field, magic}
use Rattle.obj_file.proofs.Joined.{put_then}
use Rattle.obj_file.proofs.write.put_header.Goals as goal

pub returns : goal.returns
returns c =
    let o = c.args.o.now in
    let format = magic ++ field 2 in
    let slot_seed = format ++ le_bytes 8 o.slot_seed in
    let reg_seed = slot_seed ++ le_bytes 8 o.reg_seed in
    let counts = field (length o.functions) ++ (field (length o.slots) ++ (field (length o.ro) ++ field (length o.rw))) in
    let two = put_then _ magic (field 2) _ _ c.in_ok-append.ensures.put c.in_ok-put_field.ensures in
    let three = put_then _ format (le_bytes 8 o.slot_seed) _ _ two c.in_ok-put_word.ensures in
    let four = put_then _ slot_seed (le_bytes 8 o.reg_seed) _ _ three c.in_ok-put_word-2.ensures in
    put_then _ reg_seed counts _ _ four c.in_ok-put_counts.ensures
