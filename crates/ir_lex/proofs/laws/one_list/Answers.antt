use Rattle.ir_lex.proofs.Rows.{scan_once}
use Rattle.ir_lex.proofs.laws.one_list.Goals as goal

pub returns : goal.returns
returns c = scan_once
