use Rattle.std.proofs.Common.{◌≡◌, drop}
use Rattle.obj_core.specs.Disassembly.{found, disassembly_of}
use Rattle.obj_core.specs.WellFormed.{bad_cut}
use Rattle.obj_check.proofs.cuts.first_bad_cut.Given as goal

-- the cuts so far are good
abbrev pub invariant-loop-cut : goal.invariant-loop-cut
invariant-loop-cut l =
    bad_cut l.before (found (disassembly_of l.function.bytes)) (drop l.cut-index l.cuts) ≡
    bad_cut 0 (found (disassembly_of l.function.bytes)) l.cuts
