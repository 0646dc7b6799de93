-- what is left decides
use Rattle.std.proofs.Common.{◌≡◌, drop}
use Rattle.std.specs.List.{list_all}
use Rattle.ir_core.specs.declared.module.Param.{Param}
use Rattle.ir_core.specs.Kinds.{kind_of}
use Rattle.ir_core.specs.Typing.{is_value}
use Rattle.ir_types.proofs.spots.takes_values.Given as goal

abbrev pub invariant-loop-p : goal.invariant-loop-p
invariant-loop-p l = list_all (λ (p : Param). is_value (kind_of p.ty)) (drop l.p-index l.params) ≡ list_all (λ (p : Param). is_value (kind_of p.ty)) l.params
