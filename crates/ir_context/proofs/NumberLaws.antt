-- Numbers of names are below the lengths of their lists.
use Rattle.std.proofs.Common.{◌≡◌, ℕ, zero, suc, ◌<◌, Bool, true, false, List, [], ◌∷◌, length, map, Option, Some, None, refl, ap, sym, ◌∙◌, arith, if◌then◌else◌}
use Rattle.std.specs.Prelude.{option_map}
use Rattle.ir_core.specs.Names.{same_name, number_where}
use Rattle.ir_core.proofs.LookupLaws.{number-names}

-- a number that is found is below the length
pub number_below : {X : Type 0} (p : X → Bool) (xs : List X) (k : ℕ) → number_where p xs ≡ Some k → k < length xs
number_below p [] k e = absurd (cc)
number_below p (x ∷ xs) k e = by (p x) (number_where p xs) k (λ j. number_below p xs j) e
  where
    by : (b : Bool) (o : Option ℕ) (k : ℕ) → ((j : ℕ) → o ≡ Some j → j < length xs) → (if b then Some 0 else option_map (λ n. suc n) o) ≡ Some k → k < length (x ∷ xs)
    by true o zero go e = omega arith
    by true o (suc k) go e = absurd (cc)
    by false None k go e = absurd (cc)
    by false (Some j) k go e = let below = go j refl in let is : suc j ≡ k = cc in omega arith

-- a number of a name is below the number of items
pub named_below : {X : Type 0} (name_of : X → List ℕ) (xs : List X) (names : List (List ℕ)) (name : List ℕ) (k : ℕ) → names ≡ map name_of xs → number_where (λ n. same_name n name) names ≡ Some k → k < length xs
named_below name_of xs names name k are e = number_below (λ x. same_name (name_of x) name) xs k (number-names name_of xs name ∙ sym (ap (number_where (λ n. same_name n name)) are) ∙ e)
