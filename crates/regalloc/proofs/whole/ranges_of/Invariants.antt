use Rattle.std.proofs.Common.{◌≡◌, ◌++◌, drop, map}
use Rattle.regalloc.specs.Whole.{range_where}
use Rattle.regalloc.proofs.whole.ranges_of.Given as goal

-- what is left to add is the ranges of the registers that are left
abbrev pub invariant-loop-occurs : goal.invariant-loop-occurs
invariant-loop-occurs l = l.ranges ++ map range_where (drop l.occurs-index l.seen) ≡ map range_where l.seen
