-- What an initialiser holds, one form after another.
use Rattle.std.proofs.Common.{◌≡◌, ℕ, List, [], map, ap, sym, ◌∙◌}
use Rattle.ir_core.specs.declared.ty.Ty.{Ty}
use Rattle.ir_core.specs.declared.operand.Operand.{Operand}
use Rattle.ir_core.specs.declared.init.Init.{Init, fold-roll-Init}
use Rattle.ir_core.specs.declared.init.Init.TheVariants.{Value, Zero, Text, Array, Struct, Packed, rolls-Value, rolls-Zero, rolls-Text, rolls-Array, rolls-Struct, rolls-Packed}
use Rattle.ir_core.specs.declared.init.Init.TheOpen.{Init-F}
use Rattle.ir_core.specs.declared.init.Elem.{Elem, fold-roll-Elem}
use Rattle.ir_core.specs.declared.module.Module.{Module}
use Rattle.ir_core.specs.declared.memory.Cell.{Cell}
use Rattle.ir_core.specs.declared.memory.Cell.TheVariants.{Byte}
use Rattle.ir_core.specs.Kinds.{kind_of}
use Rattle.ir_core.specs.Shapes.{shape_of}
use Rattle.ir_core.specs.Operands.{value_of}
use Rattle.ir_core.specs.Globals.{Part, zeros, end_to_end, spread, cells_or_zeros, init_at, element_at, part_of, cells_of_init}

-- a value
pub init-value : (m : Module) (v : Operand) (ty : Ty) → cells_of_init m (Value v) ty ≡ cells_or_zeros (shape_of m.types ty).size (value_of m [] (kind_of ty) v)
init-value m v ty = ap (λ i. cells_of_init m i ty) (sym (rolls-Value v)) ∙ ap (λ (f : Ty → List Cell). f ty) (fold-roll-Init (Ty → List Cell) Part (init_at m) (element_at m) (Init-F.Value v))

-- zeros
pub init-zero : (m : Module) (ty : Ty) → cells_of_init m Zero ty ≡ zeros (shape_of m.types ty).size
init-zero m ty = ap (λ i. cells_of_init m i ty) (sym rolls-Zero) ∙ ap (λ (f : Ty → List Cell). f ty) (fold-roll-Init (Ty → List Cell) Part (init_at m) (element_at m) Init-F.Zero)

-- a text
pub init-text : (m : Module) (bytes : List ℕ) (ty : Ty) → cells_of_init m (Text bytes) ty ≡ map Byte bytes
init-text m bytes ty = ap (λ i. cells_of_init m i ty) (sym (rolls-Text bytes)) ∙ ap (λ (f : Ty → List Cell). f ty) (fold-roll-Init (Ty → List Cell) Part (init_at m) (element_at m) (Init-F.Text bytes))

-- an array: its elements end to end
pub init-array : (m : Module) (es : List Elem) (ty : Ty) → cells_of_init m (Array es) ty ≡ end_to_end (map (part_of m) es)
init-array m es ty = ap (λ i. cells_of_init m i ty) (sym (rolls-Array es)) ∙ ap (λ (f : Ty → List Cell). f ty) (fold-roll-Init (Ty → List Cell) Part (init_at m) (element_at m) (Init-F.Array es))

-- a struct: its fields at their places, zeros between them
pub init-struct : (m : Module) (es : List Elem) (ty : Ty) → cells_of_init m (Struct es) ty ≡ spread 0 (shape_of m.types ty).size (map (part_of m) es)
init-struct m es ty = ap (λ i. cells_of_init m i ty) (sym (rolls-Struct es)) ∙ ap (λ (f : Ty → List Cell). f ty) (fold-roll-Init (Ty → List Cell) Part (init_at m) (element_at m) (Init-F.Struct es))

-- a packed struct: its fields end to end
pub init-packed : (m : Module) (es : List Elem) (ty : Ty) → cells_of_init m (Packed es) ty ≡ end_to_end (map (part_of m) es)
init-packed m es ty = ap (λ i. cells_of_init m i ty) (sym (rolls-Packed es)) ∙ ap (λ (f : Ty → List Cell). f ty) (fold-roll-Init (Ty → List Cell) Part (init_at m) (element_at m) (Init-F.Packed es))

-- an element
pub part-element : (m : Module) (ty : Ty) (i : Init) → part_of m (record { ty = ty; init = i }) ≡ record { align = (shape_of m.types ty).align; cells = cells_of_init m i ty }
part-element m ty i = fold-roll-Elem (Ty → List Cell) Part (init_at m) (element_at m) (record { ty = ty; init = i })
