use Rattle.std.proofs.Common.{◌≡◌, ℕ, ◌<◌, length, slice_get, Some, false}
use Rattle.regalloc.proofs.occurs.unmarked.Given as goal

abbrev pub invariant-loop-r : goal.invariant-loop-r
invariant-loop-r l = record {
  long : length l.seen ≡ l._r;
  none : (x : ℕ) → x < l._r → slice_get l.seen x ≡ Some false;
}
