use Rattle.obj_core.specs.Object.{IsByte}
use Rattle.obj_check.proofs.Eaches.{each_all}
use Rattle.obj_check.proofs.known.bytes_known.Goals as goal

pub returns : goal.returns
returns c = each_all IsByte c.args.bytes.now c.known.ensures
