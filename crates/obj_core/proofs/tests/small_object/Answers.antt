use Rattle.std.proofs.Common.{rules}
use Rattle.obj_core.proofs.SmallWell.{small_well}
use Rattle.obj_core.proofs.tests.small_object.Goals as goal

pub new-requires-3 : goal.new-requires-3
new-requires-3 c = small_well _ (search rules)
