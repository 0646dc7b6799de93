use Rattle.std.proofs.Common.{sym, ◌∙◌}
use Rattle.std.specs.Prelude.{nat_eq}
use Rattle.x86_core.specs.Registers.{number_of}
use Rattle.obj_check.specs.Marked.{marked}
use Rattle.obj_check.proofs.Marking.{or_none}
use Rattle.obj_check.proofs.asked.mark_one.Goals as goal

pub returns-clause-marks : goal.returns-clause-marks
returns-clause-marks c = λ r. c.mark_register.ensures.marks r ∙ sym (or_none (nat_eq (number_of r) (number_of c.args.reg)) (marked c.args.table.now (number_of r)))
