-- Modules whose types and frames are within the limits.
use Rattle.std.specs.Prelude.{◌≤◌}
use Rattle.ir_core.specs.declared.limit.TheConstants.{MAX_FRAME}
use Rattle.ir_core.specs.declared.module.Function.{Function}
use Rattle.ir_core.specs.declared.module.GlobalVar.{GlobalVar}
use Rattle.ir_core.specs.declared.module.Module.{Module}
use Rattle.ir_core.specs.Counts.{frame_count}
use Rattle.ir_core.specs.Mentions.{of_global, of_function}
use Rattle.ir_context.specs.Small.{FieldsAreSmall, IsSmallMention}
use Rattle.ir_sound.specs.WellTyped.{Each}

-- all types in a module are small, and so are the frames of its functions
pub record IsSmallModule (m : Module) : Type 0 where
  pub fields : FieldsAreSmall m.types m.types
  pub globals : Each (λ (g : GlobalVar). Each (IsSmallMention m.types) (of_global g)) m.globals
  pub functions : Each (λ (f : Function). Each (IsSmallMention m.types) (of_function f)) m.functions
  pub frames : Each (λ (f : Function). frame_count m.types f ≤ MAX_FRAME) m.functions
