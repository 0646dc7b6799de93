-- the tests so far and those to come
use Rattle.std.proofs.Common.{◌≡◌, ◌++◌, drop, length}
use Rattle.switch_lower.specs.Tree.{tests}
use Rattle.switch_lower.proofs.tree.Switch.add_tests.Given as goal

abbrev pub invariant-loop-k : goal.invariant-loop-k
invariant-loop-k l = l.all ++ tests l.self (length l.all) (drop l.k l.ways) ≡ l.initial.all ++ tests l.self (length l.initial.all) l.ways
