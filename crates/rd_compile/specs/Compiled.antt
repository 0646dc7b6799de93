-- What it means that an object is compiled from a module.
use Rattle.std.specs.Prelude.{ℕ, ◌*◌}
use Rattle.behavior.specs.Preserves.{Preserves, ReachesWithin}
use Rattle.ir_core.specs.declared.module.Module.{Module}
use Rattle.ir_core.specs.Run.{source_run}
use Rattle.obj_core.specs.declared.object.Object.{Object}
use Rattle.obj_core.specs.WellFormed.{IsWellFormed}
use Rattle.obj_core.specs.SymbolicMachine.{symbolic_behavior}
use Rattle.frame_lower.specs.Meaning.{most_steps}
use Rattle.rd_compile.specs.Program.{program_steps, IsPassed}

-- a well-formed object, put together of what the passes make of the module by both seeds, which prints, takes and ends as the
-- module means wherever that is defined, within a bound on its steps
pub record IsCompiledFrom (m : Module) (slot_seed reg_seed : ℕ) (o : Object) : Type 0 where
  pub passed : IsPassed m slot_seed reg_seed o
  pub well_formed : IsWellFormed o
  pub preserves : Preserves (source_run m) (symbolic_behavior o)
  pub within : ReachesWithin most_steps (most_steps * program_steps m) (source_run m) (symbolic_behavior o)
