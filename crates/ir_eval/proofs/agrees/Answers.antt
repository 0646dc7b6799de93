use Rattle.ir_eval.proofs.AgreeLaws.{valid_agrees}
use Rattle.ir_eval.proofs.agrees.Goals as goal

pub returns : goal.returns
returns c = valid_agrees
