use Rattle.std.proofs.Common.{◌∙◌}
use Rattle.obj_core.proofs.Looked.{planned_is}
use Rattle.obj_core.proofs.code.CodePlan.place.Goals as goal

pub returns-clause-layout : goal.returns-clause-layout
returns-clause-layout c = λ o seed is. c.address_of.ensures ∙ planned_is c.args.self.now c.args.at.now o seed is
