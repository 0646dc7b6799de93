-- Single bytes of flat memory, after others were put or taken away.
use Rattle.std.proofs.Common.{◌≡◌, ◌≢◌, ℕ, zero, suc, ◌+◌, ◌<◌, ◌≤◌, ◌⊎◌, inl, inr, List, [], ◌∷◌, length, Option, Some, slice_get, nat_eq, refl, ap, sym, ◌∙◌, subst, arith, if◌then◌else◌}
use Rattle.std.proofs.lemmas.Bool.{ne_eqb, eq-eqb}
use Rattle.low_core.specs.Flat.{Bytes, with_byte, with_bytes, bytes_from}

if_same : {A : Type 0} (a b : ℕ) (x y : A) → a ≡ b → (if nat_eq a b then x else y) ≡ x
if_same a b x y e = ap (λ t. if t then x else y) (eq-eqb a b e)

if_other : {A : Type 0} (a b : ℕ) (x y : A) → a ≢ b → (if nat_eq a b then x else y) ≡ y
if_other a b x y e = ap (λ t. if t then x else y) (ne_eqb a b e)

pub put_outside : (m : Bytes) (at : ℕ) (bs : List (Option ℕ)) (p : ℕ) → (p < at) ⊎ (at + length bs ≤ p) → with_bytes m at bs p ≡ m p
put_outside m at [] p h = refl
put_outside m at (b ∷ bs) p (inl lt) = put_outside (with_byte m at b) (at + 1) bs p (inl (omega arith)) ∙ if_other p at b (m p) (λ e. absurd (omega arith))
put_outside m at (b ∷ bs) p (inr past) = put_outside (with_byte m at b) (at + 1) bs p (inr (omega arith)) ∙ if_other p at b (m p) (λ e. absurd (omega arith))

pub put_inside : (m : Bytes) (at : ℕ) (bs : List (Option ℕ)) (j : ℕ) (b : Option ℕ) → slice_get bs j ≡ Some b → with_bytes m at bs (at + j) ≡ b
put_inside m at [] j b h = absurd (cc)
put_inside m at (c ∷ bs) zero b h =
    let same : c ≡ b = cc in
    put_outside (with_byte m at c) (at + 1) bs (at + 0) (inl (omega arith)) ∙ if_same (at + 0) at c (m (at + 0)) (omega arith) ∙ same
put_inside m at (c ∷ bs) (suc j) b h =
    subst (λ p. with_bytes (with_byte m at c) (at + 1) bs p ≡ b) (omega arith) (put_inside (with_byte m at c) (at + 1) bs j b h)

pub get_from : (m : Bytes) (at n j : ℕ) (b : Option ℕ) → slice_get (bytes_from m at n) j ≡ Some b → (j < n) × (b ≡ m (at + j))
get_from m at zero j b h = absurd (cc)
get_from m at (suc n) zero b h =
    let same : m at ≡ b = cc in
    (omega arith, sym same ∙ ap m (omega arith))
get_from m at (suc n) (suc j) b h =
    let r = get_from m (at + 1) n j b h in
    let lt : j < n = r.0 in
    (omega arith, r.1 ∙ ap m (omega arith))

pub length_from : (m : Bytes) (at n : ℕ) → length (bytes_from m at n) ≡ n
length_from m at zero = refl
length_from m at (suc n) = ap suc (length_from m (at + 1) n)
