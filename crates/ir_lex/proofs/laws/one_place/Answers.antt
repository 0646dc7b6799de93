use Rattle.ir_lex.proofs.Rows.{stop_once}
use Rattle.ir_lex.proofs.laws.one_place.Goals as goal

pub returns : goal.returns
returns c = stop_once
