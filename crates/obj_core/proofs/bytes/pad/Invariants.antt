use Rattle.std.proofs.Common.{◌≡◌, ◌≤◌, ◌++◌}
use Rattle.obj_core.specs.Placement.{filler}
use Rattle.obj_core.proofs.bytes.pad.Given as goal

-- what is put, with what is left, is all
abbrev pub invariant-loop-left : goal.invariant-loop-left
invariant-loop-left l = record {
  few : l.left ≤ l.count;
  put : l.all ++ filler l.left ≡ l.fn.all ++ filler l.count;
}

abbrev pub decreases-loop-left : goal.decreases-loop-left
decreases-loop-left l = l.left
