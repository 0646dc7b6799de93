use Rattle.x86_rows.proofs.Leaves.{alu, alu_imm, imul, shift}
use Rattle.x86_rows.proofs.law.operations.Goals as goal

pub returns-clause-alu : goal.returns-clause-alu
returns-clause-alu c = alu

pub returns-clause-alu_imm : goal.returns-clause-alu_imm
returns-clause-alu_imm c = alu_imm

pub returns-clause-imul : goal.returns-clause-imul
returns-clause-imul c = imul

pub returns-clause-shift : goal.returns-clause-shift
returns-clause-shift c = shift
