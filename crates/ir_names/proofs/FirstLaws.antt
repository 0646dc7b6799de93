-- The first name of what a loop goes over, one item after another.
use Rattle.std.proofs.Common.{◌≡◌, ℕ, ◌+◌, ◌<◌, ◌≤◌, List, [], ◌∷◌, ◌++◌, length, get_or, drop, map, Option, Some, None, refl, ap, sym, ◌∙◌}
use Rattle.std.specs.Prelude.{option_map}
use Rattle.std.specs.Option.{option_or}
use Rattle.ir_core.proofs.LoopLaws.{drop_item}
use Rattle.ir_types.proofs.FirstLaws.{first-append, drop_past}
use Rattle.ir_names.specs.Firsts.{first_name}

-- the first of two rows is that of the left one
pub first_left : (xs ys : List (List ℕ)) (s : List ℕ) → Some s ≡ first_name xs → Some s ≡ first_name (xs ++ ys)
first_left xs ys s e = ap (λ o. option_or o (first_name ys)) e ∙ sym (first-append xs ys)

-- or, where that is empty, of the right one
pub first_right : (xs ys : List (List ℕ)) (r : Option (List ℕ)) → None ≡ first_name xs → r ≡ first_name ys → r ≡ first_name (xs ++ ys)
first_right xs ys r none e = e ∙ ap (λ o. option_or o (first_name ys)) none ∙ sym (first-append xs ys)

-- the first of names that are changed
pub first_map : (f : List ℕ → List ℕ) (xs : List (List ℕ)) → first_name (map f xs) ≡ option_map f (first_name xs)
first_map f [] = refl
first_map f (x ∷ xs) = refl

-- names of a row, given item by item
module _ {X : Type 0} (names : List X → List (List ℕ)) (one : X → List (List ℕ)) (step : (x : X) (xs : List X) → names (x ∷ xs) ≡ one x ++ names xs) (xs : List X) (k : ℕ) (x : X) (inside : k < length xs) (item : x ≡ get_or xs k x) (whole : Option (List ℕ)) (so_far : first_name (names (drop k xs)) ≡ whole) where
  -- the first of the item, or else of the rest
  here : option_or (first_name (one x)) (first_name (names (drop (k + 1) xs))) ≡ whole
  here = sym (first-append (one x) (names (drop (k + 1) xs))) ∙ sym (ap first_name (ap names (drop_item xs k x inside item) ∙ step x (drop (k + 1) xs))) ∙ so_far

  -- a name of the item is the first
  pub first_found : (s : List ℕ) → Some s ≡ first_name (one x) → Some s ≡ whole
  first_found s e = ap (λ o. option_or o (first_name (names (drop (k + 1) xs)))) e ∙ here

  -- without one it is that of the rest
  pub first_passed : None ≡ first_name (one x) → first_name (names (drop (k + 1) xs)) ≡ whole
  first_passed e = ap (λ o. option_or o (first_name (names (drop (k + 1) xs)))) e ∙ here

-- once nothing is left there is none
pub first_end : {X : Type 0} (names : List X → List (List ℕ)) (xs : List X) (k : ℕ) (whole : Option (List ℕ)) → names [] ≡ [] → length xs ≤ k → first_name (names (drop k xs)) ≡ whole → None ≡ whole
first_end names xs k whole empty past so_far = sym (ap first_name (ap names (drop_past xs k past) ∙ empty)) ∙ so_far
