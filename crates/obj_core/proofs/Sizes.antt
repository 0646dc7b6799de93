-- How large a well-formed object is at most.
use Rattle.std.proofs.Common.{◌+◌, ◌≤◌, length, arith}
use Rattle.std.proofs.Math.Logic.{∥∥₁_elim}
use Rattle.std.proofs.Math.Bridge.{le_prop}
use Rattle.std.proofs.lemmas.List.Sums.{sum-map}
use Rattle.obj_core.specs.declared.object.Object.{Object}
use Rattle.obj_core.specs.declared.object.Func.{Func}
use Rattle.obj_core.specs.WellFormed.{IsWellFormed}
use Rattle.obj_core.proofs.Fronts.{code_len}

module _ (o : Object) (known : ∥ IsWellFormed o ∥₁) where
  pub few_functions : length o.functions ≤ 4112
  few_functions = ∥∥₁_elim known le_prop (λ w. w.few.functions)

  pub few_slots : length o.slots ≤ 1048576
  few_slots = ∥∥₁_elim known le_prop (λ w. w.few.slots)

  pub some_slot : 1 ≤ length o.slots
  some_slot = ∥∥₁_elim known le_prop (λ w. w.few.some_slot)

  pub little_code : code_len o.functions ≤ 67108864
  little_code = ∥∥₁_elim known le_prop (λ w. let total = sum-map (λ (f : Func). length f.bytes) o.functions in omega (arith, w.few.code, total))

  pub little_data : length o.ro + length o.rw ≤ 67108864
  little_data = ∥∥₁_elim known le_prop (λ w. w.few.data_bytes)
