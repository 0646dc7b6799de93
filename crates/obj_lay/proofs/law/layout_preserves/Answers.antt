use Rattle.obj_lay.proofs.hidden.Images.{layout_preserves}
use Rattle.obj_lay.proofs.law.layout_preserves.Goals as goal

pub returns : goal.returns
returns c = layout_preserves
