use Rattle.ir_eval.proofs.PartLaws.{is_placed, is_read}
use Rattle.ir_eval.proofs.operands_are_read.Goals as goal

pub returns : goal.returns
returns c m env names kind a all small fits = is_read m names kind a (is_placed m env kind a all small fits)
