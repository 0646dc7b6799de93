use Rattle.obj_file.proofs.Tells.{object_fits}
use Rattle.obj_file.proofs.laws.counts_fit.Goals as goal

pub returns : goal.returns
returns c = object_fits
