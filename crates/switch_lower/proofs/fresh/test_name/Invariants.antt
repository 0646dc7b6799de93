-- so many zero bytes
use Rattle.std.proofs.Common.{◌≡◌}
use Rattle.switch_lower.specs.Fresh.{zero_bytes}
use Rattle.switch_lower.proofs.fresh.test_name.Given as goal

abbrev pub invariant-loop-k : goal.invariant-loop-k
invariant-loop-k l = l.all ≡ zero_bytes l._k
