use Rattle.rd_top.proofs.Made.{image_made}
use Rattle.rd_top.proofs.making.image_bytes.Goals as goal

pub returns : goal.returns
returns c =
    image_made c.args.valid.now.kept c.args.slot_seed c.args.reg_seed c.args.layout_seed c.in_ok-checked.checked.object c.in_ok-bytes.bytes c.in_ok-checked.ensures
    c.in_ok-bytes.ensures
