use Rattle.obj_core.proofs.Landing.{landing_is, slots_land}
use Rattle.obj_core.proofs.law.words_that_land.Goals as goal

pub returns : goal.returns
returns c o w p = (landing_is o w p, slots_land o w p)
