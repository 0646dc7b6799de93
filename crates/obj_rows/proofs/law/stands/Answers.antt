use Rattle.obj_rows.proofs.Rows.{stands_whole, stands_first, stands_behind}
use Rattle.obj_rows.proofs.law.stands.Goals as goal

pub returns-clause-whole : goal.returns-clause-whole
returns-clause-whole c = stands_whole

pub returns-clause-first : goal.returns-clause-first
returns-clause-first h = λ row xs ys off. stands_first row off xs ys

pub returns-clause-behind : goal.returns-clause-behind
returns-clause-behind h = λ row xs ys off. stands_behind row off xs ys
