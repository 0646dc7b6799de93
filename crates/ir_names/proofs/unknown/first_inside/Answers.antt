use Rattle.std.proofs.Common.{◌∙◌}
use Rattle.ir_names.proofs.ReachLaws.{inside_known}
use Rattle.ir_names.proofs.unknown.first_inside.Goals as goal

pub returns : goal.returns
returns c = c.first_of_mentions.ensures ∙ inside_known c.args.tables.now c.args.f.now c.in_ok-scope.scope c.labels.result.now c.locals.result.now _ c.in_ok-scope.ensures c.labels.ensures c.locals.ensures (c.as_slice.ensures ∙ c.in_ok-mentions.ensures)
