-- the first of what is left is that of all
use Rattle.std.proofs.Common.{◌≡◌, drop}
use Rattle.std.specs.List.{flat_map}
use Rattle.ir_limits.specs.Past.{past_in}
use Rattle.ir_limits.proofs.mentions.past_all.Given as goal

abbrev pub invariant-loop-item : goal.invariant-loop-item
invariant-loop-item g l = past_in l.gauge (flat_map g.T.Mentions.mentioned (drop l.item-index l.items)) ≡ past_in l.gauge (flat_map g.T.Mentions.mentioned l.items)
