-- Places without a value behind places with one.
use Rattle.std.proofs.Common.{◌≡◌, ℕ, zero, suc, ◌+◌, List, [], ◌∷◌, ◌++◌, append_assoc, refl, replicate, ap, ◌∙◌, arith}

-- a run at the end of a list grows by one
replicate_end : {X : Type 0} (n : ℕ) (x : X) → replicate n x ++ x ∷ [] ≡ replicate (n + 1) x
replicate_end zero x = refl
replicate_end (suc n) x = ap (λ xs. x ∷ xs) (replicate_end n x) ∙ (let e : suc (n + 1) ≡ suc n + 1 = omega arith in ap (λ k. replicate k x) e)

pub one_more_place : {X : Type 0} (known : List X) (n : ℕ) (x : X) → (known ++ replicate n x) ++ x ∷ [] ≡ known ++ replicate (n + 1) x
one_more_place known n x = append_assoc known (replicate n x) (x ∷ []) ∙ ap (λ xs. known ++ xs) (replicate_end n x)
