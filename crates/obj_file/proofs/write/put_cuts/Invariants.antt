use Rattle.std.proofs.Common.{◌≡◌, ◌++◌, drop}
use Rattle.obj_core.specs.Object.{cuts_bytes}
use Rattle.obj_file.proofs.write.put_cuts.Given as goal

-- the bytes so far, and those of the cuts that are left, are the whole
abbrev pub invariant-loop-cut : goal.invariant-loop-cut
invariant-loop-cut l = l.out ++ cuts_bytes (drop l.cut-index l.cuts) ≡ l.fn.out ++ cuts_bytes l.cuts
