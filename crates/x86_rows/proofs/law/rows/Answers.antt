use Rattle.x86_rows.proofs.Rows.{exec-append}
use Rattle.x86_rows.proofs.law.rows.Goals as goal

pub returns : goal.returns
returns c = exec-append
