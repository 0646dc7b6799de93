-- What holds of each item of a row, and finding items.
use Rattle.std.proofs.Common.{◌≡◌, ℕ, suc, Bool, true, false, List, [], ◌∷◌, ◌++◌, map, take, Some, refl, ap, sym, ◌∙◌, zero, length, None, subst, arith, Option, ◌<◌, drop}
use Rattle.std.specs.Prelude.{◌||◌, slice_get, if◌then◌else◌, replicate, slice_set, option_map}
use Rattle.std.specs.List.{list_all, list_any, flat_map}
use Rattle.std.proofs.lemmas.Bool.{and_parts, and_from}
use Rattle.ir_core.specs.Names.{first_where, number_where}
use Rattle.ir_sound.specs.WellTyped.{Each}
use Rattle.ir_sound.proofs.SameLaws.{none_is, not_true, some_is}

-- of all items that pass, the one at a place does
pub all_at : {X : Type 0} (test : X → Bool) (xs : List X) (i : ℕ) (x : X) → list_all test xs ≡ true → slice_get xs i ≡ Some x → test x ≡ true
all_at test [] i x all e = none_is x e
all_at test (y ∷ ys) zero x all e = subst (λ z. test z ≡ true) (some_is y x e) (and_parts (test y) (list_all test ys) all).0
all_at test (y ∷ ys) (suc i) x all e = all_at test ys i x (and_parts (test y) (list_all test ys) all).1 e

-- what holds at each place holds of all
pub all_from : {X : Type 0} (test : X → Bool) (xs : List X) → ((i : ℕ) (x : X) → slice_get xs i ≡ Some x → test x ≡ true) → list_all test xs ≡ true
all_from test [] go = refl
all_from test (x ∷ xs) go = and_from _ _ (go 0 x refl) (all_from test xs (λ i y at. go (suc i) y at))

-- of all items with a property, the one at a place has it
pub Each_at : {X : Type 0} (P : X → Type 0) (xs : List X) (i : ℕ) (x : X) → Each P xs → slice_get xs i ≡ Some x → P x
Each_at P [] i x all e = none_is x e
Each_at P (y ∷ ys) zero x all e = subst P (some_is y x e) all.0
Each_at P (y ∷ ys) (suc i) x all e = Each_at P ys i x all.1 e

-- a property that follows, of all
pub Each_more : {X : Type 0} (P Q : X → Type 0) (xs : List X) → ((x : X) → P x → Q x) → Each P xs → Each Q xs
Each_more P Q [] go all = tt
Each_more P Q (x ∷ xs) go all = (go x all.0, Each_more P Q xs go all.1)

-- two rows
pub Each_both : {X : Type 0} (P : X → Type 0) (xs ys : List X) → Each P xs → Each P ys → Each P (xs ++ ys)
Each_both P [] ys a b = b
Each_both P (x ∷ xs) ys a b = (a.0, Each_both P xs ys a.1 b)

-- a row in two parts
pub Each_parts : {X : Type 0} (P : X → Type 0) (xs ys : List X) → Each P (xs ++ ys) → Each P xs × Each P ys
Each_parts P [] ys all = (tt, all)
Each_parts P (x ∷ xs) ys all = let r = Each_parts P xs ys all.1 in ((all.0, r.0), r.1)

-- a row of rows
pub Each_rows : {X Y : Type 0} (P : X → Type 0) (row : Y → List X) (ys : List Y) → Each P (flat_map row ys) → Each (λ y. Each P (row y)) ys
Each_rows P row [] all = tt
Each_rows P row (y ∷ ys) all = let p = Each_parts P (row y) (flat_map row ys) all in (p.0, Each_rows P row ys p.1)

-- of what is changed, all have a property
pub each_mapped : {A B : Type 0} (P : B → Type 0) (f : A → B) (xs : List A) → Each P (map f xs) → Each (λ x. P (f x)) xs
each_mapped P f [] all = tt
each_mapped P f (x ∷ xs) all = (all.0, each_mapped P f xs all.1)

-- what holds of each item by a test
pub Each_from : {X : Type 0} (test : X → Bool) (xs : List X) → list_all test xs ≡ true → Each (λ y. test y ≡ true) xs
Each_from test [] e = tt
Each_from test (x ∷ xs) e = let p = and_parts (test x) (list_all test xs) e in (p.0, Each_from test xs p.1)

-- two properties of each
pub Each_and : {X : Type 0} (P Q : X → Type 0) (xs : List X) → Each P xs → Each Q xs → Each (λ y. P y × Q y) xs
Each_and P Q [] p q = tt
Each_and P Q (x ∷ xs) p q = ((p.0, q.0), Each_and P Q xs p.1 q.1)

-- a row with another item at a place
pub Each_set : {X : Type 0} (P : X → Type 0) (xs : List X) (i : ℕ) (x : X) → Each P xs → P x → Each P (slice_set xs i x)
Each_set P [] i x all p = tt
Each_set P (y ∷ ys) zero x all p = (p, all.1)
Each_set P (y ∷ ys) (suc i) x all p = (all.0, Each_set P ys i x all.1 p)

-- a front of a row
pub Each_take : {X : Type 0} (P : X → Type 0) (n : ℕ) (xs : List X) → Each P xs → Each P (take n xs)
Each_take P zero xs all = tt
Each_take P (suc n) [] all = tt
Each_take P (suc n) (x ∷ xs) all = (all.0, Each_take P n xs all.1)

-- what is left of a row
pub Each_drop : {X : Type 0} (P : X → Type 0) (n : ℕ) (xs : List X) → Each P xs → Each P (drop n xs)
Each_drop P zero xs all = all
Each_drop P (suc n) [] all = tt
Each_drop P (suc n) (x ∷ xs) all = Each_drop P n xs all.1

-- one item again and again
pub Each_replicate : {X : Type 0} (P : X → Type 0) (n : ℕ) (x : X) → P x → Each P (replicate n x)
Each_replicate P zero x p = tt
Each_replicate P (suc n) x p = (p, Each_replicate P n x p)

-- as many items with another one at a place
pub length_set : {X : Type 0} (xs : List X) (i : ℕ) (y : X) → length (slice_set xs i y) ≡ length xs
length_set [] i y = refl
length_set (x ∷ xs) zero y = refl
length_set (x ∷ xs) (suc i) y = ap (λ n. suc n) (length_set xs i y)

-- as many items
pub length_map : {A B : Type 0} (f : A → B) (xs : List A) → length (map f xs) ≡ length xs
length_map f [] = refl
length_map f (x ∷ xs) = ap (λ n. suc n) (length_map f xs)

-- the number of an item is one of the list's
pub number_below : {X : Type 0} (test : X → Bool) (xs : List X) (n : ℕ) → number_where test xs ≡ Some n → n < length xs
number_below test [] n e = none_is n e
number_below test (x ∷ xs) n e = by_test (test x) (number_below test xs) e
  where
    later : (o : Option ℕ) → ((k : ℕ) → o ≡ Some k → k < length xs) → option_map (λ k. suc k) o ≡ Some n → n < suc (length xs)
    later (Some k) go f = let g = some_is (suc k) n f in let h = go k refl in omega arith
    later None go f = none_is n f

    by_test : (b : Bool) → ((k : ℕ) → number_where test xs ≡ Some k → k < length xs) → (if b then Some 0 else option_map (λ k. suc k) (number_where test xs)) ≡ Some n → n < suc (length xs)
    by_test true go f = let g = some_is 0 n f in omega arith
    by_test false go f = later (number_where test xs) go f

-- an item that passes is found, with its number
pub record Found {X : Type 0} (test : X → Bool) (xs : List X) : Type 0 where
  pub number : ℕ
  pub item : X
  pub numbered : number_where test xs ≡ Some number
  pub first : first_where test xs ≡ Some item
  pub at_number : slice_get xs number ≡ Some item
  pub passes : test item ≡ true

-- where one item passes, one is found
pub found_any : {X : Type 0} (test : X → Bool) (xs : List X) → list_any test xs ≡ true → Found test xs
found_any test [] e = not_true e
found_any {X} test (x ∷ xs) e = by_test (test x) refl (found_any test xs)
  where
    by_test : (b : Bool) → test x ≡ b → (list_any test xs ≡ true → Found test xs) → Found test (x ∷ xs)
    by_test true t go = record {
      number = 0;
      item = x;
      at_number = refl;
      passes = t;
      numbered = ap (λ b. if b then Some 0 else option_map (λ k. suc k) (number_where test xs)) t;
      first = ap (λ b. if b then Some x else first_where test xs) t;
    }
    by_test false t go =
        let r = go (sym (ap (λ b. b || list_any test xs) t) ∙ e) in
        record {
          number = suc r.number;
          item = r.item;
          at_number = r.at_number;
          passes = r.passes;
          numbered = ap (λ b. if b then Some 0 else option_map (λ k. suc k) (number_where test xs)) t ∙ ap (option_map (λ k. suc k)) r.numbered;
          first = ap (λ b. if b then Some x else first_where test xs) t ∙ r.first;
        }

-- where the first item that passes is this one, one passes
pub first_passes : {X : Type 0} (test : X → Bool) (xs : List X) (x : X) → first_where test xs ≡ Some x → list_any test xs ≡ true
first_passes test [] x e = none_is x e
first_passes test (y ∷ ys) x e = by_test (test y) (first_passes test ys x) e
  where
    by_test : (b : Bool) → (first_where test ys ≡ Some x → list_any test ys ≡ true) → (if b then Some y else first_where test ys) ≡ Some x → (b || list_any test ys) ≡ true
    by_test true go f = refl
    by_test false go f = go f

-- of items with a property, the first that is found has it
pub first_has : {X : Type 0} (P : X → Type 0) (found : X → Bool) (xs : List X) (x : X) → Each P xs → first_where found xs ≡ Some x → P x
first_has P found [] x all e = none_is x e
first_has P found (y ∷ ys) x all e = by_test (found y) e (first_has P found ys x all.1)
  where
    by_test : (b : Bool) → (if b then Some y else first_where found ys) ≡ Some x → (first_where found ys ≡ Some x → P x) → P x
    by_test true f go = subst P (some_is y x f) all.0
    by_test false f go = go f

-- an item at a number below the length
pub item_at : {X : Type 0} (xs : List X) (n : ℕ) → n < length xs → (x : X) × (slice_get xs n ≡ Some x)
item_at [] n below = absurd (omega arith)
item_at (x ∷ xs) zero below = (x, refl)
item_at (x ∷ xs) (suc n) below = item_at xs n (omega arith)

-- the place of an item is below the length
pub below_at : {X : Type 0} (xs : List X) (n : ℕ) (x : X) → slice_get xs n ≡ Some x → n < length xs
below_at [] n x e = none_is x e
below_at (y ∷ ys) zero x e = omega arith
below_at (y ∷ ys) (suc n) x e = let h = below_at ys n x e in omega arith
