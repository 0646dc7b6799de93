-- What an initialiser mentions and whether it fits a type, one form after another.
use Rattle.std.proofs.Common.{◌≡◌, ℕ, Bool, true, false, List, [], ◌∷◌, ◌++◌, map, refl, ap, sym, ◌∙◌}
use Rattle.std.specs.List.{flat_map}
use Rattle.ir_core.specs.declared.ty.Ty.{Ty, out-Ty}
use Rattle.ir_core.specs.declared.operand.Operand.{Operand}
use Rattle.ir_core.specs.declared.init.Init.{fold-roll-Init}
use Rattle.ir_core.specs.declared.init.Init.TheVariants.{Value, Zero, Text, Array, Struct, Packed, rolls-Value, rolls-Zero, rolls-Text, rolls-Array, rolls-Struct, rolls-Packed}
use Rattle.ir_core.specs.declared.init.Init.TheOpen.{Init-F, Elem-F}
use Rattle.ir_core.specs.declared.init.Elem.{Elem, fold-Elem, fold-roll-Elem}
use Rattle.ir_core.specs.declared.module.Module.{Module}
use Rattle.ir_core.specs.Mentions.{Mention, OfType, of_operand, of_init_at, of_init}
use Rattle.ir_core.specs.Valid.{Fitted, value_fits, array_fits, text_fits, struct_fits, opened, init_fits_at, init_fits, fitted}

-- an element's mentions, its type in front
abbrev element_mentions : Elem-F (List Mention) (List Mention) → List Mention
element_mentions e = OfType e.ty ∷ e.init

-- the mentions of an element
abbrev pub of_element : Elem → List Mention
of_element e = OfType e.ty ∷ of_init e.init

-- a value
pub mentions-value : (v : Operand) → of_init (Value v) ≡ of_operand v
mentions-value v = ap of_init (sym (rolls-Value v)) ∙ fold-roll-Init (List Mention) (List Mention) of_init_at element_mentions (Init-F.Value v)

-- zeros
pub mentions-zero : of_init Zero ≡ []
mentions-zero = ap of_init (sym rolls-Zero) ∙ fold-roll-Init (List Mention) (List Mention) of_init_at element_mentions Init-F.Zero

-- a text
pub mentions-text : (bytes : List ℕ) → of_init (Text bytes) ≡ []
mentions-text bytes = ap of_init (sym (rolls-Text bytes)) ∙ fold-roll-Init (List Mention) (List Mention) of_init_at element_mentions (Init-F.Text bytes)

-- the elements, as a fold has them
elements_mention : (es : List Elem) → flat_map (λ (ms : List Mention). ms) (map (fold-Elem (List Mention) (List Mention) of_init_at element_mentions) es) ≡ flat_map of_element es
elements_mention [] = refl
elements_mention (e ∷ es) = ap (λ ms. ms ++ flat_map (λ (ns : List Mention). ns) (map (fold-Elem (List Mention) (List Mention) of_init_at element_mentions) es)) (fold-roll-Elem (List Mention) (List Mention) of_init_at element_mentions (record { ty = e.ty; init = e.init })) ∙ ap (λ ms. of_element e ++ ms) (elements_mention es)

-- an array
pub mentions-array : (es : List Elem) → of_init (Array es) ≡ flat_map of_element es
mentions-array es = ap of_init (sym (rolls-Array es)) ∙ fold-roll-Init (List Mention) (List Mention) of_init_at element_mentions (Init-F.Array es) ∙ elements_mention es

-- a struct
pub mentions-struct : (es : List Elem) → of_init (Struct es) ≡ flat_map of_element es
mentions-struct es = ap of_init (sym (rolls-Struct es)) ∙ fold-roll-Init (List Mention) (List Mention) of_init_at element_mentions (Init-F.Struct es) ∙ elements_mention es

-- a packed struct
pub mentions-packed : (es : List Elem) → of_init (Packed es) ≡ flat_map of_element es
mentions-packed es = ap of_init (sym (rolls-Packed es)) ∙ fold-roll-Init (List Mention) (List Mention) of_init_at element_mentions (Init-F.Packed es) ∙ elements_mention es

-- an element's fit, its type beside it
abbrev element_fits : Elem-F (Ty → Bool) Fitted → Fitted
element_fits e = record { ty = e.ty; fits = e.init e.ty }

-- the elements, as a fold has them
elements_fit : (m : Module) (es : List Elem) → map (fold-Elem (Ty → Bool) Fitted (init_fits_at m) element_fits) es ≡ map (fitted m) es
elements_fit m [] = refl
elements_fit m (e ∷ es) = ap (λ f. f ∷ map (fold-Elem (Ty → Bool) Fitted (init_fits_at m) element_fits) es) (fold-roll-Elem (Ty → Bool) Fitted (init_fits_at m) element_fits (record { ty = e.ty; init = e.init })) ∙ ap (λ fs. fitted m e ∷ fs) (elements_fit m es)

-- a value
pub fits-value : (m : Module) (v : Operand) (ty : Ty) → init_fits m (Value v) ty ≡ value_fits m ty v
fits-value m v ty = ap (λ i. init_fits m i ty) (sym (rolls-Value v)) ∙ ap (λ (f : Ty → Bool). f ty) (fold-roll-Init (Ty → Bool) Fitted (init_fits_at m) element_fits (Init-F.Value v))

-- zeros
pub fits-zero : (m : Module) (ty : Ty) → init_fits m Zero ty ≡ true
fits-zero m ty = ap (λ i. init_fits m i ty) (sym rolls-Zero) ∙ ap (λ (f : Ty → Bool). f ty) (fold-roll-Init (Ty → Bool) Fitted (init_fits_at m) element_fits Init-F.Zero)

-- a text
pub fits-text : (m : Module) (bytes : List ℕ) (ty : Ty) → init_fits m (Text bytes) ty ≡ text_fits bytes (out-Ty ty)
fits-text m bytes ty = ap (λ i. init_fits m i ty) (sym (rolls-Text bytes)) ∙ ap (λ (f : Ty → Bool). f ty) (fold-roll-Init (Ty → Bool) Fitted (init_fits_at m) element_fits (Init-F.Text bytes))

-- an array
pub fits-array : (m : Module) (es : List Elem) (ty : Ty) → init_fits m (Array es) ty ≡ array_fits (map (fitted m) es) (out-Ty ty)
fits-array m es ty =
    ap (λ i. init_fits m i ty) (sym (rolls-Array es)) ∙ ap (λ (f : Ty → Bool). f ty) (fold-roll-Init (Ty → Bool) Fitted (init_fits_at m) element_fits (Init-F.Array es))
    ∙ ap (λ fs. array_fits fs (out-Ty ty)) (elements_fit m es)

-- a struct
pub fits-struct : (m : Module) (es : List Elem) (ty : Ty) → init_fits m (Struct es) ty ≡ struct_fits false (map (fitted m) es) (opened m.types (out-Ty ty))
fits-struct m es ty =
    ap (λ i. init_fits m i ty) (sym (rolls-Struct es)) ∙ ap (λ (f : Ty → Bool). f ty) (fold-roll-Init (Ty → Bool) Fitted (init_fits_at m) element_fits (Init-F.Struct es))
    ∙ ap (λ fs. struct_fits false fs (opened m.types (out-Ty ty))) (elements_fit m es)

-- a packed struct
pub fits-packed : (m : Module) (es : List Elem) (ty : Ty) → init_fits m (Packed es) ty ≡ struct_fits true (map (fitted m) es) (opened m.types (out-Ty ty))
fits-packed m es ty =
    ap (λ i. init_fits m i ty) (sym (rolls-Packed es)) ∙ ap (λ (f : Ty → Bool). f ty) (fold-roll-Init (Ty → Bool) Fitted (init_fits_at m) element_fits (Init-F.Packed es))
    ∙ ap (λ fs. struct_fits true fs (opened m.types (out-Ty ty))) (elements_fit m es)
