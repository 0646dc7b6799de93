-- the first of what is left is that of all
use Rattle.std.proofs.Common.{◌≡◌, drop}
use Rattle.std.specs.List.{flat_map}
use Rattle.ir_core.specs.declared.limit.TheConstants.{MAX_PARAMETERS}
use Rattle.ir_limits.specs.Past.{first_past}
use Rattle.ir_limits.proofs.params.past_all.Given as goal

abbrev pub invariant-loop-item : goal.invariant-loop-item
invariant-loop-item g l = first_past MAX_PARAMETERS (flat_map g.T.Counted.counts_of (drop l.item-index l.items)) ≡ first_past MAX_PARAMETERS (flat_map g.T.Counted.counts_of l.items)
