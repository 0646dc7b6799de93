use Rattle.std.proofs.Common.{◌≡◌, ℕ, ◌≤◌, ◌<◌, true}
use Rattle.xom_memory.specs.Pages.{laid, is_made}
use Rattle.xom_memory.proofs.pages.make_all.Given as goal

abbrev pub invariant-loop-k : goal.invariant-loop-k
invariant-loop-k l = record {
  same : (n : ℕ) → laid n l.pages ≡ laid n l.fn.pages;
  made : (j : ℕ) → l.low ≤ j → j < l.k → is_made l.pages j ≡ true;
}
