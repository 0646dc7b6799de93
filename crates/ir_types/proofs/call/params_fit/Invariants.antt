-- what is left decides
use Rattle.std.proofs.Common.{◌≡◌, drop, map}
use Rattle.ir_core.specs.Valid.{all_two, same_ty, types_of}
use Rattle.ir_core.specs.declared.module.Param.{Param}
use Rattle.ir_types.proofs.call.params_fit.Given as goal

abbrev pub invariant-loop-i : goal.invariant-loop-i
invariant-loop-i l = all_two same_ty (map (λ (p : Param). p.ty) (drop l.i l.params)) (types_of (drop l.i l.args)) ≡ all_two same_ty (map (λ (p : Param). p.ty) l.params) (types_of l.args)
