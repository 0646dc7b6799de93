-- What is found by the number of its name is the first of that name.
use Rattle.std.proofs.Common.{◌≡◌, ℕ, suc, Bool, true, false, List, [], ◌∷◌, map, Option, Some, None, refl, ap, sym, ◌∙◌, if◌then◌else◌}
use Rattle.std.specs.Prelude.{option_map, slice_get, option_and_then}
use Rattle.ir_core.specs.Names.{same_name, number_where, first_where}

-- one place further
further : {X : Type 0} (x : X) (xs : List X) (o : Option ℕ) → option_and_then (slice_get (x ∷ xs)) (option_map (λ n. suc n) o) ≡ option_and_then (slice_get xs) o
further x xs None = refl
further x xs (Some n) = refl

-- an item by its number
pub first-number : {X : Type 0} (name_of : X → List ℕ) (xs : List X) (name : List ℕ) → first_where (λ (x : X). same_name (name_of x) name) xs ≡ option_and_then (slice_get xs) (number_where (λ n. same_name n name) (map name_of xs))
first-number name_of [] name = refl
first-number name_of (x ∷ xs) name = of_bool (same_name (name_of x) name) (first-number name_of xs name)
  where
    of_bool : (b : Bool) → first_where (λ y. same_name (name_of y) name) xs ≡ option_and_then (slice_get xs) (number_where (λ n. same_name n name) (map name_of xs))
        → (if b then Some x else first_where (λ y. same_name (name_of y) name) xs) ≡ option_and_then (slice_get (x ∷ xs)) (if b then Some 0 else option_map (λ n. suc n) (number_where (λ n. same_name n name) (map name_of xs)))
    of_bool true go = refl
    of_bool false go = go ∙ sym (further x xs (number_where (λ n. same_name n name) (map name_of xs)))

-- the number of an item is that of its name
pub number-names : {X : Type 0} (name_of : X → List ℕ) (xs : List X) (name : List ℕ) → number_where (λ (x : X). same_name (name_of x) name) xs ≡ number_where (λ n. same_name n name) (map name_of xs)
number-names name_of [] name = refl
number-names name_of (x ∷ xs) name = ap (λ o. if same_name (name_of x) name then Some 0 else option_map (λ n. suc n) o) (number-names name_of xs name)

-- an item by a number that was looked up among the names
pub item_found : {X : Type 0} (name_of : X → List ℕ) (xs : List X) (names : List (List ℕ)) (name : List ℕ) (o : Option ℕ) → names ≡ map name_of xs → o ≡ number_where (λ n. same_name n name) names → option_and_then (slice_get xs) o ≡ first_where (λ (x : X). same_name (name_of x) name) xs
item_found name_of xs names name o names_are found = ap (option_and_then (slice_get xs)) (found ∙ ap (number_where (λ n. same_name n name)) names_are) ∙ sym (first-number name_of xs name)
