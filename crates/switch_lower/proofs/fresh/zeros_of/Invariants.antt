-- the zero bytes so far, and those to come
use Rattle.std.proofs.Common.{◌≡◌, ◌+◌, drop}
use Rattle.switch_lower.specs.Fresh.{zeros_of}
use Rattle.switch_lower.proofs.fresh.zeros_of.Given as goal

abbrev pub invariant-loop-b : goal.invariant-loop-b
invariant-loop-b l = record { count : l.count ≡ l.b-index; rest : l.count + zeros_of (drop l.b-index l.name) ≡ zeros_of l.name }
