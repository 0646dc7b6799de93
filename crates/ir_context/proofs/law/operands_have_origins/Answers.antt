use Rattle.ir_context.proofs.OperandLaws.{operand_read}
use Rattle.ir_context.proofs.law.operands_have_origins.Goals as goal

pub returns : goal.returns
returns c m env names kind a all small fits = operand_read m env names kind a all small fits
