use Rattle.std.proofs.Common.{◌≡◌, All, None}
use Rattle.xom_memory.proofs.codes.blanks.Given as goal

abbrev pub invariant-loop : goal.invariant-loop
invariant-loop l = All (λ e. e ≡ None) l.entries.items
