-- Structs are the same where their fields are.
use Rattle.std.proofs.Common.{◌≡◌, Bool, List, [], ◌∷◌, map, refl, ap, sym, ◌∙◌}
use Rattle.std.specs.Prelude.{◌&&◌}
use Rattle.ir_core.specs.declared.ty.Ty.{Ty, out-Ty, out-roll-Ty, fold-roll-Ty}
use Rattle.ir_core.specs.declared.ty.Ty.TheVariants.{Struct, Packed, rolls-Struct, rolls-Packed}
use Rattle.ir_core.specs.declared.ty.Ty.TheOpen.{Ty-F}
use Rattle.ir_core.specs.Valid.{all_two, same_level, same_ty}

-- rows of tests against rows of types
rows : (es fs : List Ty) → all_two (λ (is : Ty → Bool) t. is t) (map same_ty es) fs ≡ all_two same_ty es fs
rows [] [] = refl
rows [] (f ∷ fs) = refl
rows (e ∷ es) [] = refl
rows (e ∷ es) (f ∷ fs) = ap (λ b. same_ty e f && b) (rows es fs)

-- a struct against any type
structs_out : (es : List Ty) (t : Ty) → same_ty (Struct es) t ≡ same_level (Ty-F.Struct (map same_ty es)) (out-Ty t)
structs_out es t = ap (λ u. same_ty u t) (sym (rolls-Struct es)) ∙ ap (λ (f : Ty → Bool). f t) (fold-roll-Ty (Ty → Bool) (λ f u. same_level f (out-Ty u)) (Ty-F.Struct es))

-- against another such
structs_level : (es fs : List Ty) → same_level (Ty-F.Struct (map same_ty es)) (out-Ty (Struct fs)) ≡ all_two same_ty es fs
structs_level es fs = ap (same_level (Ty-F.Struct (map same_ty es))) (ap out-Ty (sym (rolls-Struct fs)) ∙ out-roll-Ty (Ty-F.Struct fs)) ∙ rows es fs

-- a struct and another
pub same-structs : (es fs : List Ty) → same_ty (Struct es) (Struct fs) ≡ all_two same_ty es fs
same-structs es fs = structs_out es (Struct fs) ∙ structs_level es fs

-- a packed one against any type
packed_out : (es : List Ty) (t : Ty) → same_ty (Packed es) t ≡ same_level (Ty-F.Packed (map same_ty es)) (out-Ty t)
packed_out es t = ap (λ u. same_ty u t) (sym (rolls-Packed es)) ∙ ap (λ (f : Ty → Bool). f t) (fold-roll-Ty (Ty → Bool) (λ f u. same_level f (out-Ty u)) (Ty-F.Packed es))

-- against another such
packed_level : (es fs : List Ty) → same_level (Ty-F.Packed (map same_ty es)) (out-Ty (Packed fs)) ≡ all_two same_ty es fs
packed_level es fs = ap (same_level (Ty-F.Packed (map same_ty es))) (ap out-Ty (sym (rolls-Packed fs)) ∙ out-roll-Ty (Ty-F.Packed fs)) ∙ rows es fs

-- a packed one and another
pub same-packed : (es fs : List Ty) → same_ty (Packed es) (Packed fs) ≡ all_two same_ty es fs
same-packed es fs = packed_out es (Packed fs) ∙ packed_level es fs
