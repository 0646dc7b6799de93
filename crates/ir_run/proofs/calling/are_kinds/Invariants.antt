-- what is left decides
use Rattle.std.proofs.Common.{◌≡◌, drop}
use Rattle.ir_core.specs.Calls.{same_kinds}
use Rattle.ir_run.specs.Turns.{kinds_in}
use Rattle.ir_run.proofs.calling.are_kinds.Given as goal

abbrev pub invariant-loop-i : goal.invariant-loop-i
invariant-loop-i l = same_kinds (drop l.i l.kinds) (kinds_in (drop l.i l.arguments)) ≡ same_kinds l.kinds (kinds_in l.arguments)
