use Rattle.obj_check.proofs.Marking.{bit_set}
use Rattle.obj_check.proofs.marks.with_bit.Goals as goal

pub returns : goal.returns
returns c = λ i. bit_set c.args.word c.args.bit i c.requires
