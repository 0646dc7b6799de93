use Rattle.ir_eval.proofs.ActLaws.{acts_as}
use Rattle.ir_eval.proofs.instructions_act.Goals as goal

pub returns : goal.returns
returns c m env names op all small fits frame = acts_as m env names all op small fits frame
