use Rattle.std.proofs.Common.{◌+◌, ◌∙◌, ap, sym}
use Rattle.ir_core.specs.Counts.{told, operand_code, cases_code, end_code}
use Rattle.ir_limits.proofs.ToldLaws.{told_two}
use Rattle.ir_limits.proofs.code.TermTakesCode.code.Goals as goal

pub returns-in-Switch : goal.returns-in-Switch
returns-in-Switch c =
    told_two c.plus.result c.with_one-in-Switch.result c.code_of_all.result (128 + operand_code c.in-Switch.a) (cases_code c.in-Switch.cases)
    c.plus.ensures c.with_one-in-Switch.ensures c.code_of_all.ensures
    ∙ ap (λ t. told (end_code t)) (sym c.in-Switch.is)
