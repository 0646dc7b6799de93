-- What `print`, `compile`, `build`, `lay` and `gen` make.
use Rattle.std.specs.Prelude.{◌≡◌, ℕ, List}
use Rattle.behavior.specs.Preserves.{Preserves}
use Rattle.ir_core.specs.Run.{source_run}
use Rattle.ir_core.specs.declared.module.Module.{Module}
use Rattle.x86_core.specs.Machine.{machine_behavior}
use Rattle.obj_core.specs.declared.object.Object.{Object}
use Rattle.obj_core.specs.Object.{object_bytes}
use Rattle.obj_core.specs.Layout.{layout}
use Rattle.elf_file.specs.Elf.{elf_bytes}
use Rattle.rd_compile.specs.Compiled.{IsCompiledFrom}
use Rattle.ir_print.specs.Canonical.{canonical_text}
use Rattle.rd_gen.specs.Workload.{workload_text}
use Rattle.rd_top.specs.Hiding.{Hides}
use Rattle.ir_print.specs.ReadsBack.{ReadsBack as IsTextOf}

-- bytes are the canonical text of a module, and as a text they are that module's
pub record IsPrinted (m : Module) (bytes : List ℕ) : Type 0 where
  pub canonical : bytes ≡ canonical_text m
  pub text_of : IsTextOf bytes m

-- bytes are the text of a module of so many functions
abbrev pub IsGenerated : ℕ → List ℕ → Type 0
IsGenerated number bytes = bytes ≡ workload_text number

-- bytes are those of one object that is compiled from a module
pub record IsObjectFor (m : Module) (slot_seed reg_seed : ℕ) (bytes : List ℕ) : Type 0 where
  pub object : Object
  pub compiled : IsCompiledFrom m slot_seed reg_seed object
  pub spelled : bytes ≡ object_bytes object

-- bytes are the file of the image of an object, which hides its layout
pub record IsLaid (o : Object) (layout_seed : ℕ) (bytes : List ℕ) : Type 0 where
  pub spelled : bytes ≡ elf_bytes (layout o layout_seed)
  pub hides : Hides o layout_seed

-- bytes are the file of the image of an object that is compiled from a module: the image prints, takes and ends as the module
-- means, in both directions
pub record IsImageFor (m : Module) (slot_seed reg_seed layout_seed : ℕ) (bytes : List ℕ) : Type 0 where
  pub object : Object
  pub compiled : IsCompiledFrom m slot_seed reg_seed object
  pub laid : IsLaid object layout_seed bytes
  pub means : Preserves (source_run m) (machine_behavior (layout object layout_seed))
