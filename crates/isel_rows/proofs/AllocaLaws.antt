-- Sizes that are told in full.
use Rattle.std.proofs.Common.{◌≡◌, ℕ, ◌*◌, ◌^◌, ◌<◌, List, Result, Ok, Err, ap, subst, ◌∙◌, arith}
use Rattle.std.specs.Prelude.{IfOk}
use Rattle.rd_num.specs.declared.width.NoMemory.{NoMemory}
use Rattle.ir_core.specs.declared.ty.Ty.{Ty}
use Rattle.ir_core.specs.declared.ty.NamedTy.{NamedTy}
use Rattle.ir_core.specs.Shapes.{shape_of}
use Rattle.ir_core.specs.Counts.{told, spaced}
use Rattle.ir_context.specs.Extents.{extent_of}
use Rattle.ir_context.proofs.ShapeLaws.{tells}

told_small : (s n : ℕ) → n ≡ told s → n < 2 ^ 32 → n ≡ s
told_small s n is small = omega arith

-- a size below 2^32 is that of the type's shape
pub size_is : (types : List NamedTy) (ty : Ty) → (extent_of types ty).size < 2 ^ 32 → (extent_of types ty).size ≡ (shape_of types ty).size
size_is types ty small = told_small (shape_of types ty).size (extent_of types ty).size (tells types ty).0 small

-- so bytes that are counted by it are those of the type
pub by_size : (types : List NamedTy) (ty : Ty) (count size : ℕ) (r : Result ℕ NoMemory) → size ≡ (extent_of types ty).size → IfOk r (λ n. n ≡ spaced (count * size)) → IfOk r (λ n. size < 2 ^ 32)
    → IfOk r (λ n. n ≡ spaced (count * (shape_of types ty).size))
by_size types ty count size (Ok n) is value within =
    value ∙ ap (λ s. spaced (count * s)) (is ∙ size_is types ty (subst (λ s. s < 2 ^ 32) is within))
by_size types ty count size (Err e) is value within = tt
