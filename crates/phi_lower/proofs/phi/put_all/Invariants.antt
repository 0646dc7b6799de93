-- the phis from here on
use Rattle.std.proofs.Common.{◌≡◌, ◌++◌, drop}
use Rattle.phi_lower.specs.Lowered.{put_aside, last_first}
use Rattle.phi_lower.proofs.phi.put_all.Given as goal

abbrev pub invariant-loop-k : goal.invariant-loop-k
invariant-loop-k l = l.moves ≡ l.initial.moves ++ last_first (put_aside l.from) (drop l.k l.all)
