use Rattle.std.proofs.Common.{length, ◌+◌, ◌-◌, ◌≤◌}
use Rattle.std.specs.Io.KnownBytes.{Consumes}
use Rattle.rd_io.proofs.real.whole.Given as goal

-- what was read are the bytes that the reader has lost, within the limit
abbrev pub invariant-loop-all : goal.invariant-loop-all
invariant-loop-all g l = record {
  within : length l.all ≤ l.limit;
  read : Consumes (g.R.Read.remaining l.initial.file) (g.R.Read.remaining l.file) l.all;
}

-- the bytes that may still come, and one
abbrev pub decreases-loop-all : goal.decreases-loop-all
decreases-loop-all g l = l.limit + 1 - length l.all
