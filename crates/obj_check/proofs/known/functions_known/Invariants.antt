use Rattle.std.proofs.Common.{take}
use Rattle.obj_core.specs.Object.{Each}
use Rattle.obj_check.specs.Ranges.{AreFuncNumbers}
use Rattle.obj_check.proofs.known.functions_known.Given as goal

-- those so far
abbrev pub invariant-loop-function : goal.invariant-loop-function
invariant-loop-function l = Each AreFuncNumbers (take l.function-index l.functions)
