use Rattle.std.proofs.Common.{◌≡◌, ◌++◌, replicate}
use Rattle.data_place.proofs.parts.put_zeros.Given as goal

-- the zeros so far
abbrev pub invariant-loop-one : goal.invariant-loop-one
invariant-loop-one l = l.bytes ≡ l.fn.bytes ++ replicate l._one 0
