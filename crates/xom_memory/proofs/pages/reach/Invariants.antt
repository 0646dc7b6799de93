use Rattle.std.proofs.Common.{◌≡◌, ℕ, ◌≤◌, ◌-◌, vec_len}
use Rattle.xom_memory.specs.Pages.{laid}
use Rattle.xom_memory.proofs.pages.reach.Given as goal

abbrev pub invariant-loop-pages : goal.invariant-loop-pages
invariant-loop-pages l = (n : ℕ) → l.high ≤ n → laid n l.pages.items ≡ laid n l.fn.pages.items

abbrev pub decreases-loop-pages : goal.decreases-loop-pages
decreases-loop-pages l = l.high - vec_len l.pages
