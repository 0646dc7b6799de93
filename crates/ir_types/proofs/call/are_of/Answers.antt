use Rattle.ir_types.proofs.RowLaws.{kinds_differ}
use Rattle.ir_types.proofs.call.are_of.Goals as goal

pub returns-then-types-kinds : goal.returns-then-types-kinds
returns-then-types-kinds c = kinds_differ c.args.types.now c.args.kinds.now c.if-types-kinds.true
