use Rattle.std.proofs.Common.{◌∙◌}
use Rattle.guard_check.proofs.Steps.{parts_tell}
use Rattle.guard_check.proofs.guard.is_the.Goals as goal

pub returns : goal.returns
returns c = c.is_step.ensures ∙ parts_tell c.args.slots c.args.number c.args.instr c.requires.few c.requires.is_instr
