use Rattle.guard_check.proofs.Runs.{never_strays}
use Rattle.guard_check.proofs.law.guarded_never_strays.Goals as goal

pub returns : goal.returns
returns c = never_strays
