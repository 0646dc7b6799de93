use Rattle.std.proofs.Common.{◌≡◌}
use Rattle.rd_compile.specs.Own.{own_words}
use Rattle.rd_compile.proofs.homes.words.Given as goal

-- the words so far
abbrev pub invariant-loop-x : goal.invariant-loop-x
invariant-loop-x l = l.all ≡ own_words l.x
