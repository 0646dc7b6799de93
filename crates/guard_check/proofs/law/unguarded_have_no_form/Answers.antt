use Rattle.guard_check.proofs.Runs.{not_both}
use Rattle.guard_check.proofs.law.unguarded_have_no_form.Goals as goal

pub returns : goal.returns
returns c = not_both
