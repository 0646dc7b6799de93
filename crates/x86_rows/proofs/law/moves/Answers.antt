use Rattle.x86_rows.proofs.Leaves.{mov, mov_imm64, mov_imm32, widen, lea, nop}
use Rattle.x86_rows.proofs.law.moves.Goals as goal

pub returns-clause-mov : goal.returns-clause-mov
returns-clause-mov c = mov

pub returns-clause-imm64 : goal.returns-clause-imm64
returns-clause-imm64 c = mov_imm64

pub returns-clause-imm32 : goal.returns-clause-imm32
returns-clause-imm32 c = mov_imm32

pub returns-clause-widen : goal.returns-clause-widen
returns-clause-widen c = widen

pub returns-clause-lea : goal.returns-clause-lea
returns-clause-lea c = lea

pub returns-clause-nop : goal.returns-clause-nop
returns-clause-nop c = nop
