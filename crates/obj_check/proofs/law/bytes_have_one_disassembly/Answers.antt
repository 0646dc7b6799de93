use Rattle.obj_check.proofs.Unique.{one_disassembly}
use Rattle.obj_check.proofs.law.bytes_have_one_disassembly.Goals as goal

pub returns : goal.returns
returns c = one_disassembly
