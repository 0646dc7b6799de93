-- the ways of the cases behind
use Rattle.std.proofs.Common.{◌≡◌, drop}
use Rattle.switch_lower.specs.Ways.{ways}
use Rattle.switch_lower.proofs.ways.by_number.Given as goal

abbrev pub invariant-loop-k : goal.invariant-loop-k
invariant-loop-k l = l.all.entries ≡ ways l.ty (drop l.k l.cases)
