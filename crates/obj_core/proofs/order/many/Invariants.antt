use Rattle.std.proofs.Common.{◌≡◌, replicate}
use Rattle.obj_core.proofs.order.many.Given as goal

abbrev pub invariant-loop : goal.invariant-loop
invariant-loop l = l.all ≡ replicate l.counter l.n
