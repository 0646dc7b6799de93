use Rattle.std.proofs.Common.{◌≡◌, replicate}
use Rattle.obj_check.proofs.marks.blank.Given as goal

abbrev pub invariant-loop : goal.invariant-loop
invariant-loop l = l.words ≡ replicate l.counter 0
