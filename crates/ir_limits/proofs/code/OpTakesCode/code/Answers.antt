use Rattle.std.proofs.Common.{◌+◌, ◌∙◌, ap, sym, refl}
use Rattle.ir_core.specs.Counts.{told, operand_code, args_code, entries_code, op_code}
use Rattle.ir_limits.proofs.ToldLaws.{told_two}
use Rattle.ir_limits.proofs.code.OpTakesCode.code.Goals as goal

pub returns-in-Gep : goal.returns-in-Gep
returns-in-Gep c =
    told_two c.plus-in-Gep.result c.with_one-in-Gep.result c.code_of_all.result (128 + operand_code c.in-Gep.p) (args_code c.in-Gep.indices)
    c.plus-in-Gep.ensures c.with_one-in-Gep.ensures c.code_of_all.ensures
    ∙ ap (λ op. told (op_code op)) (sym c.in-Gep.is)

pub returns-in-Phi : goal.returns-in-Phi
returns-in-Phi c =
    told_two c.plus-in-Phi.result 128 c.code_of_all-in-Phi.result 128 (entries_code c.in-Phi.entries) c.plus-in-Phi.ensures refl c.code_of_all-in-Phi.ensures
    ∙ ap (λ op. told (op_code op)) (sym c.in-Phi.is)

pub returns-in-Call : goal.returns-in-Call
returns-in-Call c =
    told_two c.plus-in-Call.result c.with_one-in-Call.result c.code_of_all-in-Call.result (128 + operand_code c.in-Call.callee) (args_code c.in-Call.args)
    c.plus-in-Call.ensures c.with_one-in-Call.ensures c.code_of_all-in-Call.ensures
    ∙ ap (λ op. told (op_code op)) (sym c.in-Call.is)
