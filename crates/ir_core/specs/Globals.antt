-- What globals hold when a run begins.
use Rattle.std.specs.Prelude.{ℕ, ◌+◌, ◌-◌, List, [], ◌∷◌, ◌++◌, true, length, map, replicate, Ok, Err}
use Rattle.ir_core.specs.declared.ty.Ty.{Ty}
use Rattle.ir_core.specs.declared.init.Init.{Init, fold-Init}
use Rattle.ir_core.specs.declared.init.Init.TheOpen.{Init-F, Elem-F}
use Rattle.ir_core.specs.declared.init.Elem.{Elem, fold-Elem}
use Rattle.ir_core.specs.declared.module.GlobalVar.{GlobalVar}
use Rattle.ir_core.specs.declared.module.Module.{Module}
use Rattle.ir_core.specs.declared.memory.Value.{Value}
use Rattle.ir_core.specs.declared.memory.Cell.{Cell}
use Rattle.ir_core.specs.declared.memory.Cell.TheVariants.{Byte}
use Rattle.ir_core.specs.declared.memory.Object0.{Object0}
use Rattle.ir_core.specs.Stops.{Answer}
use Rattle.ir_core.specs.Kinds.{kind_of}
use Rattle.ir_core.specs.Shapes.{shape_of, rounded}
use Rattle.ir_core.specs.Memory.{Memory, cells_of}
use Rattle.ir_core.specs.Operands.{value_of}

-- so many zero bytes
abbrev pub zeros : ℕ → List Cell
zeros count = replicate count (Byte 0)

-- the cells of an element, with the alignment of its type
pub record Part : Type 0 where
  pub align : ℕ
  pub cells : List Cell

-- elements one after another
abbrev pub end_to_end : List Part → List Cell
end_to_end [] = []
end_to_end (p ∷ ps) = p.cells ++ end_to_end ps

-- fields from a place on, up to the end of the struct, with zeros between them
abbrev pub spread : ℕ → ℕ → List Part → List Cell
spread at size [] = zeros (size - at)
spread at size (p ∷ ps) =
    zeros (rounded at p.align - at) ++ p.cells ++ spread (rounded at p.align + length p.cells) size ps

-- a value that no number or pointer type has, as an undef of an array, is zeros
abbrev pub cells_or_zeros : ℕ → Answer Value → List Cell
cells_or_zeros size (Ok v) = cells_of v
cells_or_zeros size (Err e) = zeros size

-- an initialiser as cells of a type, one level
abbrev pub init_at : Module → Init-F (Ty → List Cell) Part → Ty → List Cell
init_at m (Init-F.Value v) ty = cells_or_zeros (shape_of m.types ty).size (value_of m [] (kind_of ty) v)
init_at m Init-F.Zero ty = zeros (shape_of m.types ty).size
init_at m (Init-F.Text bytes) ty = map Byte bytes
init_at m (Init-F.Array elements) ty = end_to_end elements
init_at m (Init-F.Struct elements) ty = spread 0 (shape_of m.types ty).size elements
init_at m (Init-F.Packed elements) ty = end_to_end elements

-- an element, whose initialiser is known as cells of any type
abbrev pub element_at : Module → Elem-F (Ty → List Cell) Part → Part
element_at m e = record { align = (shape_of m.types e.ty).align; cells = e.init e.ty }

-- what an initialiser holds as one of a type
abbrev pub cells_of_init : Module → Init → Ty → List Cell
cells_of_init m = fold-Init (Ty → List Cell) Part (init_at m) (element_at m)

-- an element of an initialiser
abbrev pub part_of : Module → Elem → Part
part_of m = fold-Elem (Ty → List Cell) Part (init_at m) (element_at m)

-- the object of a global
abbrev pub global_object : Module → GlobalVar → Object0
global_object m g = record { live = true; constant = g.constant; size = (shape_of m.types g.ty).size; cells = cells_of_init m g.init g.ty }

-- the globals are the first objects, in the module's order
abbrev pub first_objects : Module → Memory
first_objects m = map (global_object m) m.globals
