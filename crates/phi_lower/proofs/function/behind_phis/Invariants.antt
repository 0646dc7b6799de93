-- only phis so far
use Rattle.std.proofs.Common.{◌≡◌, ◌+◌, drop, length}
use Rattle.phi_lower.specs.Lowered.{phis_of}
use Rattle.phi_lower.proofs.function.behind_phis.Given as goal

abbrev pub invariant-loop-i : goal.invariant-loop-i
invariant-loop-i l = record { all : l.count ≡ l.i-index; rest : l.count + length (phis_of (drop l.i-index l.insts)) ≡ length (phis_of l.insts) }
