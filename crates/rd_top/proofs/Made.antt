-- The object of a module, and its image, which means what the module does.
use Rattle.std.proofs.Common.{◌≡◌, ℕ, List}
use Rattle.ir_core.proofs.Laws.{run_straight}
use Rattle.ir_core.specs.Run.{source_run}
use Rattle.ir_core.specs.declared.module.Module.{Module}
use Rattle.obj_core.specs.declared.object.Object.{Object}
use Rattle.obj_core.specs.Object.{object_bytes}
use Rattle.rd_compile.specs.Compiled.{IsCompiledFrom}
use Rattle.obj_lay.proofs.hidden.Images.{layout_preserves}
use Rattle.rd_top.specs.Making.{IsObjectFor, IsLaid, IsImageFor}

pub object_made : (m : Module) (slot_seed reg_seed : ℕ) (o : Object) (bytes : List ℕ) → IsCompiledFrom m slot_seed reg_seed o → bytes ≡ object_bytes o → IsObjectFor m slot_seed reg_seed bytes
object_made m slot_seed reg_seed o bytes c spelled = record { object = o; compiled = c; spelled = spelled }

pub image_made : (m : Module) (slot_seed reg_seed layout_seed : ℕ) (o : Object) (bytes : List ℕ) → IsCompiledFrom m slot_seed reg_seed o → IsLaid o layout_seed bytes → IsImageFor m slot_seed reg_seed layout_seed bytes
image_made m slot_seed reg_seed layout_seed o bytes c laid = record {
  object = o;
  compiled = c;
  laid = laid;
  means = layout_preserves o c.well_formed layout_seed (source_run m) (λ input small j. run_straight m input j) c.preserves;
}
