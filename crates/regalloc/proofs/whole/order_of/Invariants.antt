use Rattle.regalloc.specs.Whole.{AreListed}
use Rattle.regalloc.proofs.whole.order_of.Given as goal

abbrev pub invariant-loop-r : goal.invariant-loop-r
invariant-loop-r l = AreListed l.seen l.r l.order
