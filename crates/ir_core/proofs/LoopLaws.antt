-- One more item of a list, as a loop meets it.
use Rattle.std.proofs.Common.{◌≡◌, ℕ, suc, ◌+◌, ◌<◌, List, [], ◌∷◌, ◌++◌, length, get_or, take, drop, ap, sym, ◌∙◌, add-one}
use Rattle.std.specs.List.{flat_map}
use Rattle.std.proofs.lemmas.List.{take_more, append-nil}
use Rattle.std.proofs.lemmas.Grind.{flat_map-append}
use Rattle.std.proofs.Math.Seq.{drop-cons}

module _ {X : Type 0} (xs : List X) (i : ℕ) (x : X) (inside : i < length xs) (item : x ≡ get_or xs i x) where
  -- the items up to one more
  pub take_item : take (i + 1) xs ≡ take i xs ++ x ∷ []
  take_item = take_more xs i x inside ∙ ap (λ y. take i xs ++ y ∷ []) (sym item)

  -- the items that are left
  pub drop_item : drop i xs ≡ x ∷ drop (i + 1) xs
  drop_item = drop-cons xs i x inside ∙ ap (λ y. y ∷ drop (suc i) xs) (sym item) ∙ (let e : suc i ≡ i + 1 = sym (add-one i) in ap (λ j. x ∷ drop j xs) e)

  -- what the items up to one more give
  pub flat_take : {A : Type 0} (f : X → List A) → flat_map f (take (i + 1) xs) ≡ flat_map f (take i xs) ++ f x
  flat_take f = ap (flat_map f) take_item ∙ flat_map-append f (take i xs) (x ∷ []) ∙ ap (λ ys. flat_map f (take i xs) ++ ys) (append-nil (f x))

  -- what the items that are left give
  pub flat_drop : {A : Type 0} (f : X → List A) → flat_map f (drop i xs) ≡ f x ++ flat_map f (drop (i + 1) xs)
  flat_drop f = ap (flat_map f) drop_item
