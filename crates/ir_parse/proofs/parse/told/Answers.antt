use Rattle.std.proofs.Common.{◌-◌, length, subst}
use Rattle.std.proofs.lemmas.List.{take_rest}
use Rattle.ir_grammar.specs.Tokens.{kinds}
use Rattle.ir_parse.specs.Faults.{LeavesStray, Tells}
use Rattle.ir_parse.proofs.Whole.{stray_fault}
use Rattle.ir_parse.proofs.parse.told.Goals as goal

pub returns-in-Stray : goal.returns-in-Stray
returns-in-Stray c =
    stray_fault c.args.tokens.now c.in-Stray.left c.args.end c.fault_at.result c.requires.text
    (subst (LeavesStray (kinds c.args.tokens.now)) c.in-Stray.is c.requires.stray)
    (subst (λ x. Tells x c.args.end c.fault_at.result) (take_rest c.args.tokens.now (length c.args.tokens.now - c.in-Stray.left)) c.fault_at.ensures)
