-- what is left decides
use Rattle.std.proofs.Common.{◌≡◌, drop}
use Rattle.std.specs.List.{list_all}
use Rattle.ir_core.specs.declared.ty.Ty.{Ty}
use Rattle.ir_core.specs.Kinds.{kind_of}
use Rattle.ir_core.specs.Typing.{is_value}
use Rattle.ir_types.proofs.spots.are_values.Given as goal

abbrev pub invariant-loop-t : goal.invariant-loop-t
invariant-loop-t l = list_all (λ (t : Ty). is_value (kind_of t)) (drop l.t-index l.types) ≡ list_all (λ (t : Ty). is_value (kind_of t)) l.types
