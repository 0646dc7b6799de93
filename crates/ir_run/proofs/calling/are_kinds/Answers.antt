use Rattle.ir_run.proofs.MoveLaws.{lengths_differ}
use Rattle.ir_run.proofs.calling.are_kinds.Goals as goal

pub returns-then-kinds-arguments : goal.returns-then-kinds-arguments
returns-then-kinds-arguments c = lengths_differ c.args.kinds.now c.args.arguments.now c.if-kinds-arguments.true
