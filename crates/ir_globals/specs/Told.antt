-- What globals hold when a run begins, with sizes as far as 64 bits tell them and values by where they come from.
use Rattle.std.specs.Prelude.{ℕ, ◌-◌, List, [], ◌++◌, map}
use Rattle.ir_core.specs.declared.ty.Ty.{Ty}
use Rattle.ir_core.specs.declared.init.Init.{Init, fold-Init}
use Rattle.ir_core.specs.declared.init.Init.TheOpen.{Init-F, Elem-F}
use Rattle.ir_core.specs.declared.init.Elem.{Elem}
use Rattle.ir_core.specs.declared.module.GlobalVar.{GlobalVar}
use Rattle.ir_core.specs.declared.module.Module.{Module}
use Rattle.ir_core.specs.declared.memory.Cell.{Cell}
use Rattle.ir_core.specs.declared.memory.Cell.TheVariants.{Byte}
use Rattle.ir_core.specs.Kinds.{kind_of}
use Rattle.ir_core.specs.Sizes.{align_bytes}
use Rattle.ir_core.specs.Shapes.{rounded}
use Rattle.ir_core.specs.Memory.{Memory, cells_of}
use Rattle.ir_core.specs.Globals.{Part, zeros, end_to_end, spread}
use Rattle.ir_core.specs.declared.memory.Object0.{Object0}
use Rattle.ir_memory.specs.Ranges.{whole}
use Rattle.ir_context.specs.declared.origin.Origin.{Origin}
use Rattle.ir_context.specs.declared.origin.Origin.TheVariants.{Known, Register, Unset, Malformed}
use Rattle.ir_context.specs.Extents.{extent_of}
use Rattle.ir_context.specs.Origins.{origin_of}

-- a value that is known, else so many zeros
abbrev pub origin_cells : ℕ → Origin → List Cell
origin_cells size (Known v) = cells_of v
origin_cells size (Register k) = zeros size
origin_cells size Unset = zeros size
origin_cells size Malformed = zeros size

-- a value of a type
abbrev pub operand_cells : Module → Ty → Origin → List Cell
operand_cells m ty o = origin_cells (extent_of m.types ty).size o

-- one level of an initialiser, as cells of a type
abbrev pub told_at : Module → Init-F (Ty → List Cell) Part → Ty → List Cell
told_at m (Init-F.Value v) ty = operand_cells m ty (origin_of m [] (kind_of ty) v)
told_at m Init-F.Zero ty = zeros (extent_of m.types ty).size
told_at m (Init-F.Text bytes) ty = map Byte bytes
told_at m (Init-F.Array elements) ty = end_to_end elements
told_at m (Init-F.Struct elements) ty = spread 0 (extent_of m.types ty).size elements
told_at m (Init-F.Packed elements) ty = end_to_end elements

-- an element, whose initialiser is known as cells of any type
abbrev pub told_element : Module → Elem-F (Ty → List Cell) Part → Part
told_element m e = record { align = align_bytes (extent_of m.types e.ty).align; cells = e.init e.ty }

-- an initialiser, as cells of a type
abbrev pub told_cells : Module → Init → Ty → List Cell
told_cells m = fold-Init (Ty → List Cell) Part (told_at m) (told_element m)

-- an element
abbrev pub told_part : Module → Elem → Part
told_part m e = record { align = align_bytes (extent_of m.types e.ty).align; cells = told_cells m e.init e.ty }

-- a field behind the gap in front of it, from a place on
abbrev pub behind_gap : ℕ → Part → List Cell
behind_gap at p = zeros (rounded at p.align - at) ++ p.cells

-- the object of a global
abbrev pub told_object : Module → GlobalVar → Object0
told_object m g = whole g.constant (told_cells m g.init g.ty)

-- the objects of all globals, in the module's order
abbrev pub told_objects : Module → Memory
told_objects m = map (told_object m) m.globals
