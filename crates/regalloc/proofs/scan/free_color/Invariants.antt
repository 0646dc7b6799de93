use Rattle.std.proofs.Common.{ℕ, ◌<◌, get_or}
use Rattle.regalloc.proofs.scan.free_color.Given as goal

-- no lesser colour is free
abbrev pub invariant-loop-c : goal.invariant-loop-c
invariant-loop-c l = (d : ℕ) → d < l.c → l.low < get_or l.free_from d 0
