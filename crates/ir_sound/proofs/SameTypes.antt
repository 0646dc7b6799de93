-- Types that are the same as they are written are one type.
use Rattle.std.proofs.Common.{◌≡◌, Bool, true, List, [], ◌∷◌, map, refl, ap, sym, ◌∙◌, subst}
use Rattle.std.proofs.lemmas.Bool.{and_parts, eqb-true}
use denote.Hole.Holds.{Such}
use Rattle.ir_core.specs.declared.ty.Ty.{Ty, ind-Ty, out-Ty, roll-Ty, roll-out-Ty, fold-roll-Ty}
use Rattle.ir_core.specs.declared.ty.Ty.TheOpen.{Ty-F}
use Rattle.ir_core.specs.declared.ty.Ty.TheBlock.{the_family, member-Ty}
use Rattle.ir_core.specs.declared.ty.Ty.TheFolds.{claims, map-Ty}
use Rattle.ir_core.specs.Valid.{all_two, same_level, same_ty}
use Rattle.ir_sound.proofs.SameLaws.{name_is, not_true, width_is}

-- types that are the same
abbrev Within : Type 0
Within = Such the_family (claims (λ (a : Ty). (b : Ty) → same_ty a b ≡ true → a ≡ b)) member-Ty

-- rows of them
tys_within : (es : List Within) (ts : List Ty) → all_two (λ (is : Ty → Bool) t. is t) (map same_ty (map (λ (e : Within). e.0) es)) ts ≡ true → map (λ (e : Within). e.0) es ≡ ts
tys_within [] [] e = refl
tys_within [] (t ∷ ts) e = not_true e
tys_within (w ∷ ws) [] e = not_true e
tys_within (w ∷ ws) (t ∷ ts) e = let p = and_parts _ _ e in let q = w.1 t p.0 in let r = tys_within ws ts p.1 in cc

-- a level of them
level_is : (y : Ty-F Within) (z : Ty-F Ty) → same_level (map-Ty Ty (Ty → Bool) same_ty (map-Ty Within Ty (λ e. e.0) y)) z ≡ true → map-Ty Within Ty (λ e. e.0) y ≡ z
level_is Ty-F.Void Ty-F.Void e = refl
level_is (Ty-F.Int v) (Ty-F.Int w) e = ap Ty-F.Int (width_is v w e)
level_is Ty-F.Ptr Ty-F.Ptr e = refl
level_is (Ty-F.Array m a) (Ty-F.Array n t) e = let p = and_parts _ _ e in let q = eqb-true m n p.0 in let r = a.1 t p.1 in ap (λ k. Ty-F.Array k a.0) q ∙ ap (λ k. Ty-F.Array n k) r
level_is (Ty-F.Struct es) (Ty-F.Struct ts) e = ap Ty-F.Struct (tys_within es ts e)
level_is (Ty-F.Packed es) (Ty-F.Packed ts) e = ap Ty-F.Packed (tys_within es ts e)
level_is (Ty-F.Named a) (Ty-F.Named b) e = ap Ty-F.Named (name_is a b e)
level_is y z e = not_true e

-- the same types are one type
pub ty_is : (a b : Ty) → same_ty a b ≡ true → a ≡ b
ty_is = ind-Ty (λ (a : Ty). (b : Ty) → same_ty a b ≡ true → a ≡ b) (λ x y e. subst (λ z. (b : Ty) → same_ty (roll-Ty z) b ≡ true → roll-Ty z ≡ b) e (by_level y))
  where
    by_level : (y : Ty-F Within) (b : Ty) → same_ty (roll-Ty (map-Ty Within Ty (λ e. e.0) y)) b ≡ true → roll-Ty (map-Ty Within Ty (λ e. e.0) y) ≡ b
    by_level y b e =
        ap roll-Ty (level_is y (out-Ty b) (sym (ap (λ (f : Ty → Bool). f b) (fold-roll-Ty (Ty → Bool) (λ f t. same_level f (out-Ty t)) (map-Ty Within Ty (λ k. k.0) y))) ∙ e)) ∙ roll-out-Ty b

-- rows
pub tys_are : (as' bs : List Ty) → all_two same_ty as' bs ≡ true → as' ≡ bs
tys_are [] [] e = refl
tys_are [] (b ∷ bs) e = not_true e
tys_are (a ∷ as') [] e = not_true e
tys_are (a ∷ as') (b ∷ bs) e = let p = and_parts _ _ e in let q = ty_is a b p.0 in let r = tys_are as' bs p.1 in cc
