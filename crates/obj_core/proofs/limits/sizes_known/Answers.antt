use Rattle.obj_core.proofs.Sizes.{few_functions, few_slots, little_code}
use Rattle.obj_core.proofs.limits.sizes_known.Goals as goal

pub returns-clause-functions : goal.returns-clause-functions
returns-clause-functions c = few_functions c.args.o.now c.requires

pub returns-clause-slots : goal.returns-clause-slots
returns-clause-slots c = few_slots c.args.o.now c.requires

pub returns-clause-code : goal.returns-clause-code
returns-clause-code c = little_code c.args.o.now c.requires
