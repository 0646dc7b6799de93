use Rattle.std.proofs.Common.{◌≡◌, ◌≤◌, length}
use Rattle.obj_core.proofs.Inverse.{Found}
use Rattle.obj_core.proofs.order.inverted.Given as goal

-- the places of all numbers are known that stand from here on
abbrev pub invariant-loop-i : goal.invariant-loop-i
invariant-loop-i l = record {
  number : l.n ≡ length l.order;
  within : l.i ≤ l.n;
  long : length l.all ≡ length l.order;
  found : Found l.order l.i l.all;
}
