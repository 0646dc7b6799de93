use Rattle.std.proofs.Common.{◌≡◌, ℕ, ◌≤◌, ◌-◌, true, length, take}
use Rattle.xom_memory.specs.Pages.{laid, put_at, is_made}
use Rattle.xom_memory.proofs.pages.put.Given as goal

abbrev pub invariant-loop-done : goal.invariant-loop-done
invariant-loop-done l = record {
  within : l.done ≤ length l.bytes;
  put : laid l.count l.pages ≡ put_at (laid l.count l.fn.pages) l.from (take l.done l.bytes);
  made : (k : ℕ) → is_made l.fn.pages k ≡ true → is_made l.pages k ≡ true;
}

abbrev pub decreases-loop-done : goal.decreases-loop-done
decreases-loop-done l = length l.bytes - l.done
