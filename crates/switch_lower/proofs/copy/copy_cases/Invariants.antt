-- the copies so far
use Rattle.std.proofs.Common.{◌≡◌, take}
use Rattle.switch_lower.proofs.copy.copy_cases.Given as goal

abbrev pub invariant-loop-c : goal.invariant-loop-c
invariant-loop-c l = l.all ≡ take l.c-index l.cases
