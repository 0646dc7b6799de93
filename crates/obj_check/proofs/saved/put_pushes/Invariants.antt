use Rattle.std.proofs.Common.{◌≡◌, ◌++◌, drop}
use Rattle.obj_core.specs.Disassembly.{spelled}
use Rattle.obj_check.specs.Orders.{pushes_in}
use Rattle.obj_check.proofs.saved.put_pushes.Given as goal

abbrev pub invariant-loop-place : goal.invariant-loop-place
invariant-loop-place l = l.out ++ spelled (pushes_in (drop l.place-index l.order)) ≡ l.fn.out ++ spelled (pushes_in l.order)
