use Rattle.std.proofs.Common.{ap, ◌∙◌}
use Rattle.obj_core.specs.Object.{object_bytes}
use Rattle.rd_top.proofs.Made.{object_made}
use Rattle.rd_top.proofs.making.object_bytes.Goals as goal

pub returns : goal.returns
returns c =
    object_made c.args.valid.now.kept c.args.slot_seed c.args.reg_seed c.in_ok-checked.checked.object c.in_ok-bytes.bytes c.in_ok-checked.ensures
    (c.in_ok-bytes.ensures ∙ ap object_bytes c.object.ensures.value)
