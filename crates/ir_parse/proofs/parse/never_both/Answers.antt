use Rattle.ir_parse.proofs.Whole as whole
use Rattle.ir_parse.proofs.parse.never_both.Goals as goal

pub returns : goal.returns
returns c = whole.never_both
