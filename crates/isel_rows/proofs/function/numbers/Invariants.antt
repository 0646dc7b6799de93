-- the numbers so far and those to come
use Rattle.std.proofs.Common.{◌≡◌, ◌++◌, ◌-◌}
use Rattle.isel_rows.specs.Functions.{numbers_from}
use Rattle.isel_rows.proofs.function.numbers.Given as goal

abbrev pub invariant-loop-k : goal.invariant-loop-k
invariant-loop-k l = l.all ++ numbers_from l.k (l.count - l.k) ≡ numbers_from 0 l.count
