use Rattle.std.proofs.Common.{◌≡◌, length}
use Rattle.regalloc.specs.Ranges.{AreFrames}
use Rattle.regalloc.proofs.scan.frames.Given as goal

abbrev pub invariant-loop-r : goal.invariant-loop-r
invariant-loop-r l = record {
  long : length l.homes ≡ l.r;
  own : AreFrames l.homes;
}
