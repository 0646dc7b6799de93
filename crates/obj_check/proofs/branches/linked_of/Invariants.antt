use Rattle.std.proofs.Common.{◌≡◌, ◌+◌, ◌<◌, ◌||◌, ℕ, length, drop}
use Rattle.obj_core.specs.WellFormed.{is_linked}
use Rattle.obj_check.specs.Marked.{room, marked}
use Rattle.obj_check.proofs.branches.linked_of.Given as goal

-- marked, or yet to be marked
abbrev pub invariant-loop-link : goal.invariant-loop-link
invariant-loop-link l = record {
  long : length l.function.bytes < room l.linked;
  same : (k : ℕ) → k < length l.function.bytes + 1 → (marked l.linked k || is_linked (drop l.link-index l.links) k) ≡ is_linked l.links k;
}
