-- Names, and finding things by them.
use Rattle.std.specs.Prelude.{ℕ, suc, List, [], ◌∷◌, Bool, Option, Some, None, option_map, nat_eq, if◌then◌else◌}
use Rattle.std.specs.List.{find}
use Rattle.std.specs.Cmp.Lexicographic.{pointwise}

-- whether two names are the same
abbrev pub same_name : List ℕ → List ℕ → Bool
same_name = pointwise nat_eq

-- the number, from 0, of the first item that passes a test
abbrev pub number_where : {X : Type 0} → (X → Bool) → List X → Option ℕ
number_where passes [] = None
number_where passes (x ∷ xs) = if passes x then Some 0 else option_map (λ n. suc n) (number_where passes xs)

-- the first item that passes a test
abbrev pub first_where : {X : Type 0} → (X → Bool) → List X → Option X
first_where passes xs = find passes xs
