use Rattle.obj_lay.proofs.lockstep.Images.{image_shows}
use Rattle.obj_lay.proofs.law.images_show_the_object.Goals as goal

pub returns : goal.returns
returns c = image_shows
