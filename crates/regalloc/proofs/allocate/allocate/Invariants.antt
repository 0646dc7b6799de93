use Rattle.std.proofs.Common.{◌≡◌, length}
use Rattle.regalloc.specs.Allocated.{Each}
use Rattle.regalloc.proofs.Wholes.{IsAllocated}
use Rattle.regalloc.proofs.allocate.allocate.Given as goal

abbrev pub invariant-loop-f : goal.invariant-loop-f
invariant-loop-f l = record {
  long : length l.homes ≡ l.f-index;
  each : Each IsAllocated l.f-items l.homes;
}
