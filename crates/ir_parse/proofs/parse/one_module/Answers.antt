use Rattle.ir_parse.proofs.Whole as whole
use Rattle.ir_parse.proofs.parse.one_module.Goals as goal

pub returns : goal.returns
returns c = whole.one_module
