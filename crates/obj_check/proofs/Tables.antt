-- Least offsets of two lists.
use Rattle.std.proofs.Common.{◌≡◌, ℕ, List, [], ◌∷◌, ◌++◌, Option, refl}
use Rattle.obj_check.specs.Least.{lesser_of, least_with}

pub least_append : (least : Option ℕ) (ms ns : List ℕ) → least_with (least_with least ms) ns ≡ least_with least (ms ++ ns)
least_append least [] ns = refl
least_append least (m ∷ ms) ns = least_append (lesser_of least m) ms ns
