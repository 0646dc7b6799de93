-- Items that stand in a row, and what holds of each of them.
use Rattle.std.proofs.Common.{◌≡◌, ℕ, zero, suc, Bool, true, false, List, [], ◌∷◌, ◌++◌, map, Some, refl, ap, sym, ◌∙◌, subst}
use Rattle.std.specs.Prelude.{◌||◌, slice_get, if◌then◌else◌}
use Rattle.std.specs.List.{All, list_all, list_any, flat_map, filter}
use Rattle.std.proofs.lemmas.Bool.{and_from, and_parts}
use Rattle.std.proofs.lemmas.List.{append_assoc}
use Rattle.std.proofs.lemmas.List.Elements.{All-nil, All-cons, All-head, All-tail}
use Rattle.ir_core.specs.Names.{same_name}
use Rattle.ir_core.specs.Definitions.{is_among}
use Rattle.ir_sound.specs.WellTyped.{Each}
use Rattle.ir_sound.proofs.RowLaws.{Each_both}
use Rattle.ir_sound.proofs.SameLaws.{none_is, not_true, some_is, same_itself, name_is}

-- an item at a place of a row
abbrev pub In : {X : Type 0} → X → List X → Type 0
In x xs = (k : ℕ) × (slice_get xs k ≡ Some x)

module _ {X : Type 0} where
  pub in_left : (x : X) (xs ys : List X) → In x xs → In x (xs ++ ys)
  in_left x xs ys there = (there.0, at_place xs there.0 there.1)
    where
      at_place : (zs : List X) (k : ℕ) → slice_get zs k ≡ Some x → slice_get (zs ++ ys) k ≡ Some x
      at_place [] k e = none_is x e
      at_place (z ∷ zs) zero e = e
      at_place (z ∷ zs) (suc k) e = at_place zs k e

  pub in_right : (x : X) (xs ys : List X) → In x ys → In x (xs ++ ys)
  in_right x [] ys there = there
  in_right x (z ∷ zs) ys there = let r = in_right x zs ys there in (suc r.0, r.1)

  -- each item of a row stands in it
  pub each_in : (whole xs : List X) → ((x : X) → In x xs → In x whole) → Each (λ x. In x whole) xs
  each_in whole [] are = tt
  each_in whole (x ∷ xs) are = (are x (0, refl), each_in whole xs (λ y there. are y (suc there.0, there.1)))

  pub any_in : (test : X → Bool) (x : X) (xs : List X) → In x xs → test x ≡ true → list_any test xs ≡ true
  any_in test x xs there e = at_place xs there.0 there.1
    where
      at_place : (zs : List X) (k : ℕ) → slice_get zs k ≡ Some x → list_any test zs ≡ true
      at_place [] k f = none_is x f
      at_place (z ∷ zs) zero f = ap (λ b. b || list_any test zs) (ap test (some_is z x f) ∙ e)
      at_place (z ∷ zs) (suc k) f = by_test (test z) (at_place zs k f)
        where
          by_test : (b : Bool) → list_any test zs ≡ true → (b || list_any test zs) ≡ true
          by_test true g = refl
          by_test false g = g

  -- what holds of each holds of all, and back
  pub all_of : (P : X → Type 0) (xs : List X) → Each P xs → All P xs
  all_of P [] each = All-nil P
  all_of P (x ∷ xs) each = All-cons P x xs each.0 (all_of P xs each.1)

  pub each_of : (P : X → Type 0) (xs : List X) → All P xs → Each P xs
  each_of P [] all = tt
  each_of P (x ∷ xs) all = (All-head P x xs all, each_of P xs (All-tail P x xs all))

  -- a test that all pass
  pub all_from : (test : X → Bool) (xs : List X) → Each (λ x. test x ≡ true) xs → list_all test xs ≡ true
  all_from test [] each = refl
  all_from test (x ∷ xs) each = and_from _ _ each.0 (all_from test xs each.1)

  pub all_both : (test : X → Bool) (xs ys : List X) → list_all test xs ≡ true → list_all test ys ≡ true → list_all test (xs ++ ys) ≡ true
  all_both test [] ys first second = second
  all_both test (x ∷ xs) ys first second = let p = and_parts (test x) (list_all test xs) first in and_from _ _ p.0 (all_both test xs ys p.1 second)

  -- a test of two rows
  pub any_append : (test : X → Bool) (xs ys : List X) → list_any test (xs ++ ys) ≡ (list_any test xs || list_any test ys)
  any_append test [] ys = refl
  any_append test (x ∷ xs) ys = by_test (test x) (any_append test xs ys)
    where
      by_test : (b : Bool) → list_any test (xs ++ ys) ≡ (list_any test xs || list_any test ys) → (b || list_any test (xs ++ ys)) ≡ ((b || list_any test xs) || list_any test ys)
      by_test true go = refl
      by_test false go = go

  -- what passes, of two rows
  pub filter_both : (keep : X → Bool) (xs ys : List X) → filter keep (xs ++ ys) ≡ filter keep xs ++ filter keep ys
  filter_both keep [] ys = refl
  filter_both keep (x ∷ xs) ys = by_test (keep x) (filter_both keep xs ys)
    where
      by_test : (b : Bool) → filter keep (xs ++ ys) ≡ filter keep xs ++ filter keep ys → (if b then x ∷ filter keep (xs ++ ys) else filter keep (xs ++ ys)) ≡ (if b then x ∷ filter keep xs else filter keep xs) ++ filter keep ys
      by_test true go = ap (λ l. x ∷ l) go
      by_test false go = go

  -- all or none of a row
  pub filter_all : (keep : X → Bool) (xs : List X) → Each (λ x. keep x ≡ true) xs → filter keep xs ≡ xs
  filter_all keep [] each = refl
  filter_all keep (x ∷ xs) each = ap (λ b. if b then x ∷ filter keep xs else filter keep xs) each.0 ∙ ap (λ l. x ∷ l) (filter_all keep xs each.1)

  pub filter_none : (keep : X → Bool) (xs : List X) → Each (λ x. keep x ≡ false) xs → filter keep xs ≡ []
  filter_none keep [] each = refl
  filter_none keep (x ∷ xs) each = ap (λ b. if b then x ∷ filter keep xs else filter keep xs) each.0 ∙ filter_none keep xs each.1

-- of each row each item
pub rows_each : {X Y : Type 0} (P : X → Type 0) (row : Y → List X) (ys : List Y) → Each (λ y. Each P (row y)) ys → Each P (flat_map row ys)
rows_each P row [] all = tt
rows_each P row (y ∷ ys) all = Each_both P (row y) (flat_map row ys) all.0 (rows_each P row ys all.1)

-- of each changed item
pub map_each : {A B : Type 0} (P : B → Type 0) (f : A → B) (xs : List A) → Each (λ x. P (f x)) xs → Each P (map f xs)
map_each P f [] all = tt
map_each P f (x ∷ xs) all = (all.0, map_each P f xs all.1)

-- rows one behind the other
pub rows_both : {A B : Type 0} (row : A → List B) (xs ys : List A) → flat_map row (xs ++ ys) ≡ flat_map row xs ++ flat_map row ys
rows_both row [] ys = refl
rows_both row (x ∷ xs) ys = ap (λ l. row x ++ l) (rows_both row xs ys) ∙ sym (append_assoc (row x) (flat_map row xs) (flat_map row ys))

-- a name that stands among names
pub among_in : (name : List ℕ) (names : List (List ℕ)) → In name names → is_among names name ≡ true
among_in name names there = any_in (same_name name) name names there (same_itself name)

-- each name is among names that are
pub each_among : (names ns : List (List ℕ)) → ((n : List ℕ) → is_among ns n ≡ true → is_among names n ≡ true) → Each (λ n. is_among names n ≡ true) ns
each_among names [] are = tt
each_among names (n ∷ ns) are = (are n (ap (λ b. b || is_among ns n) (same_itself n)), each_among names ns (λ k e. are k (later k e)))
  where
    later : (k : List ℕ) → is_among ns k ≡ true → is_among (n ∷ ns) k ≡ true
    later k e = by_test (same_name k n)
      where
        by_test : (b : Bool) → (b || is_among ns k) ≡ true
        by_test true = refl
        by_test false = e

-- a name among names has what they have
pub among_has : (P : List ℕ → Type 0) (names : List (List ℕ)) (t : List ℕ) → Each P names → is_among names t ≡ true → P t
among_has P [] t all e = not_true e
among_has P (n ∷ ns) t all e = by_test (same_name t n) refl e (among_has P ns t all.1)
  where
    by_test : (b : Bool) → same_name t n ≡ b → (b || is_among ns t) ≡ true → (is_among ns t ≡ true → P t) → P t
    by_test true same f go = subst P (sym (name_is t n same)) all.0
    by_test false same f go = go f
