use Rattle.ir_core.proofs.Distinct.{types_differ}
use Rattle.ir_limits.proofs.first_limit.Goals as goal

pub new-requires : goal.new-requires
new-requires c = types_differ c.args.whole.now c.requires
