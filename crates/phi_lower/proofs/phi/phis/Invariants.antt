-- what is made and what is left are the whole
use Rattle.std.proofs.Common.{◌≡◌, ◌++◌, drop}
use Rattle.phi_lower.specs.Lowered.{phis_of}
use Rattle.phi_lower.proofs.phi.phis.Given as goal

abbrev pub invariant-loop-i : goal.invariant-loop-i
invariant-loop-i l = l.all ++ phis_of (drop l.i-index l.insts) ≡ phis_of l.insts
