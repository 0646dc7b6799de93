use Rattle.regalloc.proofs.Steps.{Stands}
use Rattle.regalloc.proofs.scan.scan.Given as goal

abbrev pub invariant-loop-r : goal.invariant-loop-r
invariant-loop-r l = Stands l.ranges l.order l.r-index l.homes l.free_from
