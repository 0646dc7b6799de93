use Rattle.obj_file.proofs.Tells.{object_tells}
use Rattle.obj_file.proofs.laws.one_object.Goals as goal

pub returns : goal.returns
returns c = object_tells
