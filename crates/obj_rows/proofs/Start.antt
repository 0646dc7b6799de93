-- How a run of an object begins.
use Rattle.std.proofs.Common.{◌≡◌, ℕ, ◌+◌, ◌≤◌, List, length, refl, arith}
use Rattle.x86_core.specs.Data.{stack_start, stack_end}
use Rattle.x86_rows.specs.Saving.{IsStack}
use Rattle.x86_rows.proofs.First.{data_stack}
use Rattle.obj_core.specs.declared.object.Object.{Object}
use Rattle.obj_core.specs.declared.object.Place.{Place}
use Rattle.obj_core.specs.WellFormed.{most_data}
use Rattle.obj_core.specs.SymbolicMachine.{symbolic_start}
use Rattle.obj_rows.specs.Standing.{standing, first_core, first_outside}

pub starts_standing : (o : Object) (input : List ℕ) → symbolic_start o input ≡ standing (first_outside input) (Place.Slot 0 0) (first_core o)
starts_standing o input = refl

pub starts_with_stack : (o : Object) → length o.ro + length o.rw ≤ most_data → IsStack stack_start stack_end (first_core o).segments
starts_with_stack o few = data_stack o.ro o.rw (omega (arith, few)) (omega (arith, few))
