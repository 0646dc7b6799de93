use Rattle.ir_globals.proofs.ExtentLaws.{extents_few}
use Rattle.ir_globals.proofs.law.extents_are_few_bytes.Goals as goal

pub returns : goal.returns
returns c = extents_few
