use Rattle.ir_lex.proofs.Rows.{decided}
use Rattle.ir_lex.proofs.laws.either.Goals as goal

pub returns : goal.returns
returns c = decided
