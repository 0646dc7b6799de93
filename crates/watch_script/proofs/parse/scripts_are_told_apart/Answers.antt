use Rattle.watch_script.proofs.Unique.{one_script, no_script, one_bad}
use Rattle.watch_script.proofs.parse.scripts_are_told_apart.Goals as goal

pub returns : goal.returns
returns c = record { one = one_script; none = no_script; line = one_bad }
