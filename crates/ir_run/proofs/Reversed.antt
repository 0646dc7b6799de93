-- Lists from their ends.
use Rattle.std.proofs.Common.{◌≡◌, List, [], ◌∷◌, ◌++◌}
use Rattle.std.specs.Prelude.{reverse}
use Rattle.std.proofs.lemmas.List.{reverse-append, length-reverse}

-- the last item comes first
pub reversed_end : {A : Type 0} (xs : List A) (x : A) → reverse (xs ++ x ∷ []) ≡ x ∷ reverse xs
reversed_end xs x = reverse-append xs (x ∷ [])

pub ruleset pushed = (reversed_end)

pub ruleset popped = (reversed_end)

pub ruleset lengths = (length-reverse)
