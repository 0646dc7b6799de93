use Rattle.obj_rows.proofs.Links.{own_link}
use Rattle.obj_rows.proofs.law.links.Goals as goal

pub returns : goal.returns
returns c = own_link
