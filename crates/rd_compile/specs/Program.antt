-- The object that a module becomes.
use Rattle.std.specs.Prelude.{ℕ, ◌*◌}
use Rattle.ir_core.specs.declared.module.Module.{Module}
use Rattle.low_core.specs.declared.sel.Sel.{Sel}
use Rattle.obj_core.specs.declared.object.Object.{Object}
use Rattle.phi_lower.specs.Bound.{most_steps as phi_steps}
use Rattle.phi_lower.specs.Lowered.{bodies_without_phis}
use Rattle.switch_lower.specs.Bodies.{bodies_without_switches}
use Rattle.switch_lower.specs.Bound.{most_steps as switch_steps}
use Rattle.isel_rows.specs.Selected.{selected}
use Rattle.isel.specs.Bound.{longest}
use Rattle.rd_compile.specs.Passed.{IsObjectOf}

-- the program of registers that a module becomes
abbrev pub program_of : Module → Sel
program_of m = selected m (bodies_without_switches m (bodies_without_phis m))

-- the object that a module becomes
abbrev pub IsPassed : Module → ℕ → ℕ → Object → Type 0
IsPassed m slot_seed reg_seed o = IsObjectOf m (program_of m) slot_seed reg_seed o

-- how many operations of that program meet one step of the module at most
abbrev pub program_steps : Module → ℕ
program_steps m = longest (program_of m) * (switch_steps (bodies_without_phis m) * phi_steps m)
