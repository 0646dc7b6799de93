-- Parameters that are neither none nor two are not those of `main`.
use Rattle.std.proofs.Common.{◌≡◌, ℕ, ◌<◌, ◌≤◌, Bool, true, false, List, [], ◌∷◌, length, refl, ap, ◌∙◌, arith}
use Rattle.std.specs.Prelude.{◌&&◌}
use Rattle.rd_num.specs.declared.width.Width.TheVariants.{W32}
use Rattle.ir_core.specs.declared.module.Param.{Param}
use Rattle.ir_core.specs.declared.kind.Kind.TheVariants.{Number, Pointer}
use Rattle.ir_core.specs.Kinds.{kind_of, same_kind}
use Rattle.ir_names.specs.Start.{main_takes}

-- what is false on the right is false
last_false : (b : Bool) → false ≡ (b && false)
last_false true = refl
last_false false = refl

-- one parameter
pub one_taken : (ps : List Param) → 1 ≤ length ps → length ps < 2 → false ≡ main_takes ps
one_taken [] some few = absurd (omega (arith, some))
one_taken (p ∷ []) some few = last_false (same_kind (kind_of p.ty) (Number W32))
one_taken (p ∷ q ∷ ps) some few = absurd (omega (arith, few))

-- three, or more
pub many_taken : (ps : List Param) → 3 ≤ length ps → false ≡ main_takes ps
many_taken [] many = absurd (omega (arith, many))
many_taken (p ∷ []) many = absurd (omega (arith, many))
many_taken (p ∷ q ∷ []) many = absurd (omega (arith, many))
many_taken (p ∷ q ∷ r ∷ ps) many = last_false (same_kind (kind_of p.ty) (Number W32)) ∙ ap (λ b. same_kind (kind_of p.ty) (Number W32) && b) (last_false (same_kind (kind_of q.ty) Pointer))
