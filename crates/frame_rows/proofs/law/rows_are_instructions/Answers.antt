use Rattle.frame_rows.proofs.Ranges.{op_instrs}
use Rattle.frame_rows.proofs.law.rows_are_instructions.Goals as goal

pub returns : goal.returns
returns c = op_instrs
