-- What is told of an initialiser, one form after another.
use Rattle.std.proofs.Common.{◌≡◌, ℕ, List, [], ◌∷◌, map, refl, ap, sym, ◌∙◌}
use Rattle.ir_core.specs.declared.ty.Ty.{Ty}
use Rattle.ir_core.specs.declared.operand.Operand.{Operand}
use Rattle.ir_core.specs.declared.init.Init.{fold-roll-Init}
use Rattle.ir_core.specs.declared.init.Init.TheVariants.{Value, Zero, Text, Array, Struct, Packed, rolls-Value, rolls-Zero, rolls-Text, rolls-Array, rolls-Struct, rolls-Packed}
use Rattle.ir_core.specs.declared.init.Init.TheOpen.{Init-F}
use Rattle.ir_core.specs.declared.init.Elem.{Elem, fold-Elem, fold-roll-Elem}
use Rattle.ir_core.specs.declared.module.Module.{Module}
use Rattle.ir_core.specs.declared.memory.Cell.{Cell}
use Rattle.ir_core.specs.declared.memory.Cell.TheVariants.{Byte}
use Rattle.ir_core.specs.Kinds.{kind_of}
use Rattle.ir_core.specs.Globals.{Part, zeros, end_to_end, spread}
use Rattle.ir_context.specs.Extents.{extent_of}
use Rattle.ir_context.specs.Origins.{origin_of}
use Rattle.ir_globals.specs.Told.{operand_cells, told_at, told_element, told_cells, told_part}

-- the elements, as a fold has them
elements_told : (m : Module) (es : List Elem) → map (fold-Elem (Ty → List Cell) Part (told_at m) (told_element m)) es ≡ map (told_part m) es
elements_told m [] = refl
elements_told m (e ∷ es) =
    ap (λ p. p ∷ map (fold-Elem (Ty → List Cell) Part (told_at m) (told_element m)) es) (fold-roll-Elem (Ty → List Cell) Part (told_at m) (told_element m) (record { ty = e.ty; init = e.init }))
    ∙ ap (λ ps. told_part m e ∷ ps) (elements_told m es)

-- a value
pub told-value : (m : Module) (v : Operand) (ty : Ty) → told_cells m (Value v) ty ≡ operand_cells m ty (origin_of m [] (kind_of ty) v)
told-value m v ty = ap (λ i. told_cells m i ty) (sym (rolls-Value v)) ∙ ap (λ (f : Ty → List Cell). f ty) (fold-roll-Init (Ty → List Cell) Part (told_at m) (told_element m) (Init-F.Value v))

-- zeros
pub told-zero : (m : Module) (ty : Ty) → told_cells m Zero ty ≡ zeros (extent_of m.types ty).size
told-zero m ty = ap (λ i. told_cells m i ty) (sym rolls-Zero) ∙ ap (λ (f : Ty → List Cell). f ty) (fold-roll-Init (Ty → List Cell) Part (told_at m) (told_element m) Init-F.Zero)

-- a text
pub told-text : (m : Module) (bytes : List ℕ) (ty : Ty) → told_cells m (Text bytes) ty ≡ map Byte bytes
told-text m bytes ty = ap (λ i. told_cells m i ty) (sym (rolls-Text bytes)) ∙ ap (λ (f : Ty → List Cell). f ty) (fold-roll-Init (Ty → List Cell) Part (told_at m) (told_element m) (Init-F.Text bytes))

-- an array
pub told-array : (m : Module) (es : List Elem) (ty : Ty) → told_cells m (Array es) ty ≡ end_to_end (map (told_part m) es)
told-array m es ty =
    ap (λ i. told_cells m i ty) (sym (rolls-Array es)) ∙ ap (λ (f : Ty → List Cell). f ty) (fold-roll-Init (Ty → List Cell) Part (told_at m) (told_element m) (Init-F.Array es))
    ∙ ap end_to_end (elements_told m es)

-- a struct
pub told-struct : (m : Module) (es : List Elem) (ty : Ty) → told_cells m (Struct es) ty ≡ spread 0 (extent_of m.types ty).size (map (told_part m) es)
told-struct m es ty =
    ap (λ i. told_cells m i ty) (sym (rolls-Struct es)) ∙ ap (λ (f : Ty → List Cell). f ty) (fold-roll-Init (Ty → List Cell) Part (told_at m) (told_element m) (Init-F.Struct es))
    ∙ ap (spread 0 (extent_of m.types ty).size) (elements_told m es)

-- a packed struct
pub told-packed : (m : Module) (es : List Elem) (ty : Ty) → told_cells m (Packed es) ty ≡ end_to_end (map (told_part m) es)
told-packed m es ty =
    ap (λ i. told_cells m i ty) (sym (rolls-Packed es)) ∙ ap (λ (f : Ty → List Cell). f ty) (fold-roll-Init (Ty → List Cell) Part (told_at m) (told_element m) (Init-F.Packed es))
    ∙ ap end_to_end (elements_told m es)
