use Rattle.ir_globals.proofs.ExtentLaws.{extents_filled}
use Rattle.ir_globals.proofs.law.globals_fill_extents.Goals as goal

pub returns : goal.returns
returns c = extents_filled
