use Rattle.frame_rows.proofs.Lengths.{op_sized}
use Rattle.frame_rows.proofs.law.rows_are_short.Goals as goal

pub returns : goal.returns
returns c = op_sized
