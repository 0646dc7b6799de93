use Rattle.ir_lex.proofs.Rows.{stop_scans_not}
use Rattle.ir_lex.proofs.laws.never_both.Goals as goal

pub returns : goal.returns
returns c = stop_scans_not
