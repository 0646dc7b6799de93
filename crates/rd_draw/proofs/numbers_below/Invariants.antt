use Rattle.std.proofs.Common.{◌≡◌}
use Rattle.std.specs.List.{range_with_len}
use Rattle.rd_draw.proofs.numbers_below.Given as goal

-- the numbers before the next are there
abbrev pub invariant-loop-i : goal.invariant-loop-i
invariant-loop-i l = l.all ≡ range_with_len 0 l.i
