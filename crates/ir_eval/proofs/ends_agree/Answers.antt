use Rattle.ir_eval.proofs.PartLaws.{end_agrees}
use Rattle.ir_eval.proofs.ends_agree.Goals as goal

pub returns : goal.returns
returns c = end_agrees
