use Rattle.x86_core.proofs.Tabled.{acts_by_table}
use Rattle.x86_core.proofs.step.steps_follow_the_table.Goals as goal

pub returns : goal.returns
returns c land i after at back s long = acts_by_table land after at back s i long
