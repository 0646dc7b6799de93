use Rattle.std.proofs.Common.{subst, rules}
use Rattle.obj_core.specs.WellFormed.{AreFew}
use Rattle.obj_check.specs.Disassembled.{AnswersAll}
use Rattle.obj_check.proofs.Judged.{judged}
use Rattle.obj_check.proofs.first_broken.Goals as goal

-- each function has its disassembly, and the first rule that fails is known
pub returns-in_ok-broken-in-All : goal.returns-in_ok-broken-in-All
returns-in_ok-broken-in-All c =
    let few : AreFew c.args.o.now = search rules in
    let right = subst (AnswersAll c.args.o.now.functions) c.in-All.is c.in_ok-noted.ensures in
    judged c.args.o.now c.in-All.noted c.in_ok-broken-in-All.broken c.numbers_known.ensures few right c.in_ok-broken-in-All.ensures
