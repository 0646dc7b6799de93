use Rattle.ir_globals.proofs.SmallLaws.{valid_small}
use Rattle.ir_globals.proofs.law.valid_is_small.Goals as goal

pub returns : goal.returns
returns c = valid_small
