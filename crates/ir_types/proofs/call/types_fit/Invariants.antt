-- what is left decides
use Rattle.std.proofs.Common.{◌≡◌, drop}
use Rattle.ir_core.specs.Valid.{all_two, same_ty, types_of}
use Rattle.ir_types.proofs.call.types_fit.Given as goal

abbrev pub invariant-loop-i : goal.invariant-loop-i
invariant-loop-i l = all_two same_ty ((drop l.i l.types)) (types_of (drop l.i l.args)) ≡ all_two same_ty (l.types) (types_of l.args)
