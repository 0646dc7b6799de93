-- Bytes that are put one after another.
use Rattle.std.proofs.Common.{◌≡◌, ℕ, List, ◌∷◌, ◌++◌, sym, ◌∙◌, ap, subst, append_assoc}
use Rattle.obj_core.specs.declared.object.Func.{Func}
use Rattle.obj_core.specs.Object.{Each, function_bytes, functions_bytes}

-- more bytes behind those that were put already
pub put_then : (front more next one two : List ℕ) → one ≡ front ++ more → two ≡ one ++ next → two ≡ front ++ (more ++ next)
put_then front more next one two p q = q ∙ ap (λ x. x ++ next) p ∙ append_assoc front more next

-- a function's bytes behind those of the functions before it
pub put_function_then : (whole one two : List ℕ) (f : Func) (fs all : List Func) → all ≡ f ∷ fs → one ++ functions_bytes function_bytes all ≡ whole → two ≡ one ++ function_bytes f → two ++ functions_bytes function_bytes fs ≡ whole
put_function_then whole one two f fs all e p q =
    ap (λ x. x ++ functions_bytes function_bytes fs) q ∙ append_assoc one (function_bytes f) (functions_bytes function_bytes fs) ∙ ap (λ x. one ++ functions_bytes function_bytes x) (sym e) ∙ p

-- what holds of each holds of each but the first
pub each_rest : {T : Type 0} (P : T → Type 0) (x : T) (xs all : List T) → all ≡ x ∷ xs → Each P all → Each P xs
each_rest P x xs all e h = (subst (λ l. Each P l) e h).1
