-- what is left decides
use Rattle.std.proofs.Common.{◌≡◌, drop}
use Rattle.ir_core.specs.Valid.{all_two, same_ty}
use Rattle.ir_types.proofs.same.+same_ty.Given as goal

abbrev pub invariant-are_same_tys-loop-i : goal.invariant-are_same_tys-loop-i
invariant-are_same_tys-loop-i l = all_two same_ty ((drop l.i l.a)) ((drop l.i l.b)) ≡ all_two same_ty (l.a) (l.b)
