-- the chunks so far and those to come
use Rattle.std.proofs.Common.{◌≡◌, ◌++◌, drop}
use Rattle.phi_lower.specs.Lowered.{chunks_to}
use Rattle.phi_lower.proofs.function.add_edges.Given as goal

abbrev pub invariant-loop-k : goal.invariant-loop-k
invariant-loop-k l = l.all ++ chunks_to l.edges l.from (drop l.k l.targets) ≡ l.initial.all ++ chunks_to l.edges l.from l.targets
