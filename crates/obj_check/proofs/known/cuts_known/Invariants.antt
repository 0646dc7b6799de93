use Rattle.std.proofs.Common.{take}
use Rattle.obj_core.specs.Object.{Each, IsField}
use Rattle.obj_check.proofs.known.cuts_known.Given as goal

-- those so far
abbrev pub invariant-loop-cut : goal.invariant-loop-cut
invariant-loop-cut l = Each IsField (take l.cut-index l.cuts)
