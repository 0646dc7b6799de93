use Rattle.std.proofs.Common.{◌+◌, sym, subst, ◌∙◌}
use Rattle.regalloc.specs.Whole.{AreListed}
use Rattle.regalloc.proofs.Wholes.{listed_more, listed_same}
use Rattle.regalloc.proofs.whole.order_of.Goals as goal
use Rattle.regalloc.proofs.whole.order_of.Goals.{then-seen-r+in_ok-add, else-seen-r}

pub loop-r-preserved : goal.loop-r-preserved
loop-r-preserved c = elim c.if-seen-r.branch [
  | then-seen-r+in_ok-add w ↦ subst (AreListed c.args.seen.now (c.loop-r.r + 1)) (sym (w.order-is ∙ w.in_ok-add.ensures.put)) (listed_more c.args.seen.now c.loop-r.r c.loop-r.order c.loop-r.invariant c.loop-r-test.true w.if-seen-r.true)
  | else-seen-r w ↦ subst (AreListed c.args.seen.now (c.loop-r.r + 1)) (sym w.order-is) (listed_same c.args.seen.now c.loop-r.r c.loop-r.order c.loop-r.invariant c.loop-r-test.true w.if-seen-r.false)
]
