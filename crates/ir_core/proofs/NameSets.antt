-- A set's keys are references to names: what is found among them is what is found among the names.
use Rattle.std.proofs.Common.{◌≡◌, ℕ, suc, ◌+◌, Bool, true, false, List, [], ◌∷◌, map, Option, Some, None, refl, ap, ◌∙◌, Bor, arith, cond, nat_eq, if◌then◌else◌}
use Rattle.std.specs.Prelude.{option_map, ◌&&◌, ◌||◌}
use Rattle.std.specs.List.{list_any, position, position_from}
use Rattle.std.proofs.lemmas.Iterator.Adapters.{position_from-zero}
use Rattle.ir_core.specs.Names.{same_name, number_where}

-- numbers are the same from either side
same_number : (m n : ℕ) → nat_eq m n ≡ nat_eq n m
same_number m n = grind arith

-- names too
pub same_name-sym : (a b : List ℕ) → same_name a b ≡ same_name b a
same_name-sym [] [] = refl
same_name-sym [] (b ∷ bs) = refl
same_name-sym (a ∷ as') [] = refl
same_name-sym (a ∷ as') (b ∷ bs) = ap (λ t. t && same_name as' bs) (same_number a b) ∙ ap (λ t. nat_eq b a && t) (same_name-sym as' bs)

-- a test of the names
pub list_any-now : (test : List ℕ → Bool) (ks : List (Bor (List ℕ))) → list_any (λ (k : Bor (List ℕ)). test k.now) ks ≡ list_any test (map (λ (k : Bor (List ℕ)). k.now) ks)
list_any-now test [] = refl
list_any-now test (k ∷ ks) = ap (λ b. test k.now || b) (list_any-now test ks)

-- of one name
pub any_names : (q : List ℕ) (ks : List (Bor (List ℕ))) → list_any (λ (k : Bor (List ℕ)). same_name q k.now) ks ≡ list_any (same_name q) (map (λ (k : Bor (List ℕ)). k.now) ks)
any_names q ks = list_any-now (same_name q) ks

-- one more in a number that may be there
one_more : (i : ℕ) (o : Option ℕ) → option_map (λ n. i + 1 + n) o ≡ option_map (λ n. i + n) (option_map (λ n. suc n) o)
one_more i None = refl
one_more i (Some n) = let e : i + 1 + n ≡ i + suc n = omega arith in ap Some e

-- the number of a name, counted on from a number
number_from : (q : List ℕ) (i : ℕ) (ks : List (Bor (List ℕ))) → position_from (λ (k : Bor (List ℕ)). same_name q k.now) i ks ≡ option_map (λ n. i + n) (number_where (λ n. same_name n q) (map (λ (k : Bor (List ℕ)). k.now) ks))
number_from q i [] = refl
number_from q i (k ∷ ks) = ap (λ b. cond b (Some i) (position_from (λ (l : Bor (List ℕ)). same_name q l.now) (i + 1) ks)) (same_name-sym q k.now) ∙ of_bool (same_name k.now q) (number_from q (i + 1) ks)
  where
    of_bool : (b : Bool) → position_from (λ (l : Bor (List ℕ)). same_name q l.now) (i + 1) ks ≡ option_map (λ n. i + 1 + n) (number_where (λ n. same_name n q) (map (λ (l : Bor (List ℕ)). l.now) ks)) → cond b (Some i) (position_from (λ (l : Bor (List ℕ)). same_name q l.now) (i + 1) ks) ≡ option_map (λ n. i + n) (if b then Some 0 else option_map (λ n. suc n) (number_where (λ n. same_name n q) (map (λ (l : Bor (List ℕ)). l.now) ks)))
    of_bool true go = let e : i ≡ i + 0 = omega arith in ap Some e
    of_bool false go = go ∙ one_more i (number_where (λ n. same_name n q) (map (λ (l : Bor (List ℕ)). l.now) ks))

-- counted on from zero
from_zero : (o : Option ℕ) → option_map (λ n. 0 + n) o ≡ o
from_zero None = refl
from_zero (Some n) = let e : 0 + n ≡ n = omega arith in ap Some e

-- the number of a name
pub position-now : (q : List ℕ) (ks : List (Bor (List ℕ))) → position (λ (k : Bor (List ℕ)). same_name q k.now) ks ≡ number_where (λ n. same_name n q) (map (λ (k : Bor (List ℕ)). k.now) ks)
position-now q ks = position_from-zero (λ (k : Bor (List ℕ)). same_name q k.now) ks ∙ number_from q 0 ks ∙ from_zero (number_where (λ n. same_name n q) (map (λ (k : Bor (List ℕ)). k.now) ks))
