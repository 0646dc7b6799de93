-- Rows one after another.
use Rattle.std.proofs.Common.{◌≡◌, List, [], ◌∷◌, ◌++◌, refl, sym, ◌∙◌, ap}
use Rattle.behavior.specs.Ending.{Ending}
use Rattle.x86_core.specs.declared.instr.Instr.{Instr}
use Rattle.x86_rows.specs.Straight.{Core, Passage, Through, Stopped, Away, ran, and_on, exec}

-- on, and on again
and_on-and_on : (r : Passage) (f g : Core → Passage) → and_on (and_on r f) g ≡ and_on r (λ c. and_on (f c) g)
and_on-and_on (Through c) f g = refl
and_on-and_on (Stopped e) f g = refl
and_on-and_on Away f g = refl

and_on-same : (r : Passage) (f g : Core → Passage) → ((c : Core) → f c ≡ g c) → and_on r f ≡ and_on r g
and_on-same (Through c) f g same = same c
and_on-same (Stopped e) f g same = refl
and_on-same Away f g same = refl

pub exec-append : (xs ys : List Instr) (c : Core) → exec (xs ++ ys) c ≡ and_on (exec xs c) (exec ys)
exec-append [] ys c = refl
exec-append (i ∷ xs) ys c = and_on-same (ran i c) (exec (xs ++ ys)) (λ d. and_on (exec xs d) (exec ys)) (λ d. exec-append xs ys d) ∙ sym (and_on-and_on (ran i c) (exec xs) (exec ys))

-- a row that is passed, and another one
pub exec-through : (xs ys : List Instr) (c d : Core) → exec xs c ≡ Through d → exec (xs ++ ys) c ≡ exec ys d
exec-through xs ys c d e = exec-append xs ys c ∙ ap (λ r. and_on r (exec ys)) e

-- what stops in a row stops in a longer one
pub exec-stopped : (xs ys : List Instr) (c : Core) (e : Ending) → exec xs c ≡ Stopped e → exec (xs ++ ys) c ≡ Stopped e
exec-stopped xs ys c e h = exec-append xs ys c ∙ ap (λ r. and_on r (exec ys)) h

-- one instruction that is passed, and the others
pub exec-first : (i : Instr) (is : List Instr) (c d : Core) → ran i c ≡ Through d → exec (i ∷ is) c ≡ exec is d
exec-first i is c d e = ap (λ r. and_on r (exec is)) e
