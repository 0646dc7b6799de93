use Rattle.std.proofs.Common.{◌≡◌, take}
use Rattle.rd_compile.specs.Own.{own_homes}
use Rattle.rd_compile.proofs.homes.homes_of.Given as goal

-- those of the functions so far
abbrev pub invariant-loop-f : goal.invariant-loop-f
invariant-loop-f l = l.all ≡ own_homes (take l.f-index l.functions)
