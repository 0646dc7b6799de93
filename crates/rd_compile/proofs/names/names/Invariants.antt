use Rattle.std.proofs.Common.{◌≡◌}
use Rattle.rd_compile.specs.Own.{drawn_names}
use Rattle.rd_compile.proofs.names.names.Given as goal

-- those of the functions so far
abbrev pub invariant-loop-n : goal.invariant-loop-n
invariant-loop-n l = l.all ≡ drawn_names l.reg_seed l.n
