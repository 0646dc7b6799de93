use Rattle.ir_eval.proofs.BlockLaws.{typed_agrees}
use Rattle.ir_eval.proofs.typed_agrees.Goals as goal

pub returns : goal.returns
returns c = typed_agrees
