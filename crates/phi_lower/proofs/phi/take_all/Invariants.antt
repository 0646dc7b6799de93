-- the phis from here on
use Rattle.std.proofs.Common.{◌≡◌, ◌++◌, drop}
use Rattle.phi_lower.specs.Lowered.{taken_up, last_first}
use Rattle.phi_lower.proofs.phi.take_all.Given as goal

abbrev pub invariant-loop-k : goal.invariant-loop-k
invariant-loop-k l = l.moves ≡ l.initial.moves ++ last_first taken_up (drop l.k l.all)
