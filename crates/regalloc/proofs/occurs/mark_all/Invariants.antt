use Rattle.std.proofs.Common.{◌≡◌, drop}
use Rattle.regalloc.specs.Occurs.{marked}
use Rattle.regalloc.proofs.occurs.mark_all.Given as goal

abbrev pub invariant-loop-r : goal.invariant-loop-r
invariant-loop-r l = marked l.seen (drop l.r-index l.registers) ≡ marked l.fn.seen l.registers
