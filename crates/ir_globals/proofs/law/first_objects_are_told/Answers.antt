use Rattle.ir_globals.proofs.FirstLaws.{first_told}
use Rattle.ir_globals.proofs.law.first_objects_are_told.Goals as goal

pub returns : goal.returns
returns c = first_told
