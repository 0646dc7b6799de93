-- Elements of an array, as many as it has.
use Rattle.std.proofs.Common.{◌≡◌, ℕ, suc, Bool, true, false, List, [], ◌∷◌, length, map, refl, ap, sym, ◌∙◌}
use Rattle.std.specs.Prelude.{◌&&◌, nat_eq}
use Rattle.ir_core.specs.declared.ty.Ty.{Ty, out-Ty, out-roll-Ty}
use Rattle.ir_core.specs.declared.ty.Ty.TheVariants.{Array, rolls-Array}
use Rattle.ir_core.specs.declared.ty.Ty.TheOpen.{Ty-F}
use Rattle.ir_core.specs.declared.init.Elem.{Elem}
use Rattle.ir_core.specs.declared.module.Module.{Module}
use Rattle.ir_core.specs.Valid.{array_fits, fitted}
use Rattle.ir_types.specs.Fitting.{elements_fit}

-- as many items
map_count : {X Y : Type 0} (f : X → Y) (xs : List X) → length (map f xs) ≡ length xs
map_count f [] = refl
map_count f (x ∷ xs) = ap (λ n. suc n) (map_count f xs)

-- the count and the elements decide
pub array_law : (m : Module) (es : List Elem) (n : ℕ) (of ty : Ty) → ty ≡ Array n of → array_fits (map (fitted m) es) (out-Ty ty) ≡ (nat_eq (length es) n && elements_fit m of es)
array_law m es n of ty e =
    ap (λ t. array_fits (map (fitted m) es) (out-Ty t)) e ∙ ap (array_fits (map (fitted m) es)) (ap out-Ty (sym (rolls-Array n of)) ∙ out-roll-Ty (Ty-F.Array n of))
    ∙ ap (λ k. nat_eq k n && elements_fit m of es) (map_count (fitted m) es)

-- a count that doesn't hold decides
pub only : (b x : Bool) → (b ≡ true → ⊥) → b ≡ (b && x)
only true x wrong = absurd (wrong refl)
only false x wrong = refl
