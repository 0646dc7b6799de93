-- Bytes that are put where runs give them, as bytes that are put over others.
use Rattle.std.proofs.Common.{◌≡◌, ℕ, suc, ◌+◌, ◌-◌, ◌<◌, ◌≤◌, List, [], ◌∷◌, length, refl, ◌∙◌, ap, arith}
use Rattle.std.specs.Prelude.{slice_set}
use Rattle.obj_core.specs.declared.run.Run.{Run}
use Rattle.obj_core.specs.Placement.{overlaid}
use Rattle.obj_core.specs.Runs.{address_at, put_at}

-- places whose addresses follow each other
pub put_together : (runs : List Run) (start a : ℕ) (all : List ℕ) (at : ℕ) (xs : List ℕ) → start ≤ a → ((p : ℕ) → p < length xs → address_at runs (at + p) ≡ a + p)
    → put_at runs start all at xs ≡ overlaid all (a - start) xs
put_together runs start a all at [] le h = refl
put_together runs start a all at (x ∷ xs) le h =
    let none : at + 0 ≡ at = omega arith in
    let here : address_at runs at ≡ a = ap (address_at runs) (omega arith) ∙ h 0 (omega arith) ∙ omega arith in
    let next : a + 1 - start ≡ a - start + 1 = omega (arith, le) in
    ap (λ b. put_at runs start (slice_set all (b - start) x) (at + 1) xs) here ∙
    put_together runs start (a + 1) (slice_set all (a - start) x) (at + 1) xs (omega (arith, le)) (λ p lt. ap (address_at runs) (omega arith) ∙ h (suc p) (omega (arith, lt)) ∙ omega arith) ∙
    ap (λ k. overlaid (slice_set all (a - start) x) k xs) next
