-- Bodies one after another.
use Rattle.std.proofs.Common.{◌≡◌, ℕ, ◌≤◌, List, [], ◌∷◌, ◌++◌, drop, length, refl, ap, sym, ◌∙◌}
use Rattle.std.proofs.lemmas.List.{append-nil}
use Rattle.ir_core.specs.declared.module.Function.{Function}
use Rattle.low_core.specs.declared.moves.Body.{Body}
use Rattle.switch_lower.specs.Bodies.{bodies_of}
use Rattle.switch_lower.proofs.ListLaws.{none_left}

no_bodies : (fs : List Function) → bodies_of fs [] ≡ []
no_bodies [] = refl
no_bodies (f ∷ fs) = refl

-- past the last body there are no more
pub bodies_end : (k : ℕ) (all : List Body) (fs : List Function) (bodies whole : List Body) → length bodies ≤ k → all ++ bodies_of fs (drop k bodies) ≡ whole → all ≡ whole
bodies_end k all fs bodies whole past are =
    sym (append-nil all) ∙ ap (λ l. all ++ l) (sym (ap (bodies_of fs) (none_left k bodies past) ∙ no_bodies fs)) ∙ are
