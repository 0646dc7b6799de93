-- Sums over lists, and over what is found under names that stand once.
use Rattle.std.proofs.Common.{◌≡◌, ℕ, suc, ◌+◌, ◌*◌, ◌≤◌, Bool, true, false, List, [], ◌∷◌, ◌++◌, map, length, fold, Option, Some, None, refl, ap, sym, ◌∙◌, arith, length-append}
use Rattle.std.specs.Prelude.{◌||◌, slice_get, if◌then◌else◌}
use Rattle.std.specs.List.{list_any, sum_by}
use Rattle.std.proofs.lemmas.List.Sums.{sum_by-cons}
use Rattle.ir_core.specs.Names.{same_name, first_where}
use Rattle.ir_core.specs.Definitions.{is_among, repeated}
use Rattle.ir_core.proofs.NameSets.{same_name-sym}
use Rattle.ir_core.proofs.Distinct.{fresh}
use Rattle.ir_sound.proofs.SameLaws.{not_true, name_is, same_itself}
use Rattle.phi_lower.specs.Lowered.{with_name}
use Rattle.phi_lower.proofs.Finds.{any_append}

-- no name stands twice
abbrev pub Apart : List (List ℕ) → Type 0
Apart [] = Unit {0}
Apart (n ∷ ns) = (is_among ns n ≡ false) × Apart ns

-- the weight of what is there
abbrev pub or_zero : {X : Type 0} → (X → ℕ) → Option X → ℕ
or_zero weight (Some x) = weight x
or_zero weight None = 0

module _ {X : Type 0} where
  pub sum_same : (f g : X → ℕ) (xs : List X) → ((x : X) → f x ≡ g x) → sum_by f xs ≡ sum_by g xs
  sum_same f g [] same = refl
  sum_same f g (x ∷ xs) same =
      let a = sum_by-cons f x xs in
      let b = sum_by-cons g x xs in
      let c = same x in
      let d = sum_same f g xs same in
      a ∙ (let z : f x + sum_by f xs ≡ g x + sum_by g xs = omega arith in z) ∙ sym b

  pub sum_le : (f g : X → ℕ) (xs : List X) → ((k : ℕ) (x : X) → slice_get xs k ≡ Some x → f x ≤ g x) → sum_by f xs ≤ sum_by g xs
  sum_le f g [] le = omega arith
  sum_le f g (x ∷ xs) le =
      let a = sum_by-cons f x xs in
      let b = sum_by-cons g x xs in
      let c = le 0 x refl in
      let d = sum_le f g xs (λ k y at. le (suc k) y at) in
      omega arith

  pub sum_zero : (xs : List X) → sum_by (λ (x : X). 0) xs ≡ 0
  sum_zero [] = refl
  sum_zero (x ∷ xs) = let a = sum_by-cons (λ (y : X). 0) x xs in let b = sum_zero xs in omega arith

  pub sum_both : (f g : X → ℕ) (xs : List X) → sum_by (λ x. f x + g x) xs ≡ sum_by f xs + sum_by g xs
  sum_both f g [] = omega arith
  sum_both f g (x ∷ xs) =
      let a = sum_by-cons f x xs in
      let b = sum_by-cons g x xs in
      let c = sum_by-cons (λ y. f y + g y) x xs in
      let d = sum_both f g xs in
      omega arith

  pub sum_map : {Y : Type 0} (f : Y → ℕ) (g : X → Y) (xs : List X) → sum_by f (map g xs) ≡ sum_by (λ x. f (g x)) xs
  sum_map f g [] = refl
  sum_map f g (x ∷ xs) = sum_by-cons f (g x) (map g xs) ∙ ap (λ n. f (g x) + n) (sum_map f g xs) ∙ sym (sum_by-cons (λ y. f (g y)) x xs)

  pub sum_times : (n : ℕ) (xs : List X) → sum_by (λ (x : X). n) xs ≡ n * length xs
  sum_times n [] = omega arith
  sum_times n (x ∷ xs) = let a = sum_by-cons (λ (y : X). n) x xs in let b = sum_times n xs in let c : n * length (x ∷ xs) ≡ n + n * length xs = grind arith in a ∙ ap (λ k. n + k) b ∙ sym c

-- a sum of sums in the other order
pub swapped : {A B : Type 0} (f : A → B → ℕ) (as' : List A) (bs : List B) → sum_by (λ a. sum_by (f a) bs) as' ≡ sum_by (λ b. sum_by (λ a. f a b) as') bs
swapped f [] bs = sym (sum_zero bs)
swapped f (a ∷ as') bs =
    sum_by-cons (λ x. sum_by (f x) bs) a as' ∙ ap (λ n. sum_by (f a) bs + n) (swapped f as' bs) ∙ sym (sum_both (f a) (λ b. sum_by (λ x. f x b) as') bs)
    ∙ sum_same (λ b. f a b + sum_by (λ x. f x b) as') (λ b. sum_by (λ x. f x b) (a ∷ as')) bs (λ b. sym (sum_by-cons (λ x. f x b) a as'))

-- what is found under names that stand once weighs at most as much as all
module _ {X : Type 0} (name_of : X → List ℕ) (weight : X → ℕ) where
  abbrev pub found : List X → List ℕ → ℕ
  found xs l = or_zero weight (first_where (λ x. same_name (name_of x) l) xs)

  found_first : (x : X) (xs : List X) (l : List ℕ) → same_name (name_of x) l ≡ true → found (x ∷ xs) l ≡ weight x
  found_first x xs l e = ap (λ b. or_zero weight (if b then Some x else first_where (λ y. same_name (name_of y) l) xs)) e

  found_later : (x : X) (xs : List X) (l : List ℕ) → same_name (name_of x) l ≡ false → found (x ∷ xs) l ≡ found xs l
  found_later x xs l e = ap (λ b. or_zero weight (if b then Some x else first_where (λ y. same_name (name_of y) l) xs)) e

  none_first : (x : X) (xs : List X) (ns : List (List ℕ)) → is_among ns (name_of x) ≡ false → sum_by (found (x ∷ xs)) ns ≡ sum_by (found xs) ns
  none_first x xs [] e = refl
  none_first x xs (n ∷ ns) e =
      let p = parts (same_name (name_of x) n) (is_among ns (name_of x)) e in
      let a = sum_by-cons (found (x ∷ xs)) n ns in
      let b = sum_by-cons (found xs) n ns in
      let c = found_later x xs n p.0 in
      let d = none_first x xs ns p.1 in
      a ∙ (let z : found (x ∷ xs) n + sum_by (found (x ∷ xs)) ns ≡ found xs n + sum_by (found xs) ns = omega arith in z) ∙ sym b
    where
      parts : (p q : Bool) → (p || q) ≡ false → (p ≡ false) × (q ≡ false)
      parts true q e = not_true (sym e)
      parts false q e = (refl, e)

  one_first : (x : X) (xs : List X) (ns : List (List ℕ)) → Apart ns → sum_by (found (x ∷ xs)) ns ≤ weight x + sum_by (found xs) ns
  one_first x xs [] apart = omega arith
  one_first x xs (n ∷ ns) apart = by_test (same_name (name_of x) n) refl (one_first x xs ns apart.1)
    where
      by_test : (t : Bool) → same_name (name_of x) n ≡ t → sum_by (found (x ∷ xs)) ns ≤ weight x + sum_by (found xs) ns → sum_by (found (x ∷ xs)) (n ∷ ns) ≤ weight x + sum_by (found xs) (n ∷ ns)
      by_test true e go =
          let a = sum_by-cons (found (x ∷ xs)) n ns in
          let b = sum_by-cons (found xs) n ns in
          let c = found_first x xs n e in
          let d = none_first x xs ns (ap (is_among ns) (name_is (name_of x) n e) ∙ apart.0) in
          omega arith
      by_test false e go =
          let a = sum_by-cons (found (x ∷ xs)) n ns in
          let b = sum_by-cons (found xs) n ns in
          let c = found_later x xs n e in
          omega arith

  pub first_sums : (xs : List X) (ns : List (List ℕ)) → Apart ns → sum_by (found xs) ns ≤ sum_by weight xs
  first_sums [] ns apart = let z = sum_zero ns in omega arith
  first_sums (x ∷ xs) ns apart =
      let a = one_first x xs ns apart in
      let b = first_sums xs ns apart in
      let c = sum_by-cons weight x xs in
      omega arith

-- names that don't repeat stand once
among_before : (before ns : List (List ℕ)) (n : List ℕ) → is_among before n ≡ true → repeated before ns ≡ [] → is_among ns n ≡ false
among_before before [] n among none = refl
among_before before (k ∷ ns) n among none =
    let f = fresh before k ns none in
    by_test (same_name n k) refl f.new (among_before (before ++ k ∷ []) ns n (any_append (same_name n) before (k ∷ []) ∙ ap (λ b. b || list_any (same_name n) (k ∷ [])) among) f.rest)
  where
    by_test : (b : Bool) → same_name n k ≡ b → is_among before k ≡ false → is_among ns n ≡ false → (b || is_among ns n) ≡ false
    by_test true e new go = not_true (sym new ∙ ap (is_among before) (sym (name_is n k e)) ∙ among)
    by_test false e new go = go

pub names_apart : (before ns : List (List ℕ)) → repeated before ns ≡ [] → Apart ns
names_apart before [] none = tt
names_apart before (n ∷ ns) none =
    let f = fresh before n ns none in
    (among_before (before ++ n ∷ []) ns n (any_append (same_name n) before (n ∷ []) ∙ there (is_among before n)) f.rest, names_apart (before ++ n ∷ []) ns f.rest)
  where
    there : (b : Bool) → (b || (same_name n n || false)) ≡ true
    there true = refl
    there false = ap (λ b. b || false) (same_itself n)

-- names that are added where they aren't there yet stand once
apart_push : (ns : List (List ℕ)) (n : List ℕ) → Apart ns → is_among ns n ≡ false → Apart (ns ++ n ∷ [])
apart_push [] n apart new = (refl, tt)
apart_push (k ∷ ns) n apart new =
    let p = parts (same_name n k) (is_among ns n) new in
    (any_append (same_name k) ns (n ∷ []) ∙ ap (λ b. b || (same_name k n || false)) apart.0 ∙ ap (λ b. b || false) (same_name-sym k n ∙ p.0), apart_push ns n apart.1 p.1)
  where
    parts : (p q : Bool) → (p || q) ≡ false → (p ≡ false) × (q ≡ false)
    parts true q e = not_true (sym e)
    parts false q e = (refl, e)

pub added_apart : (more ns : List (List ℕ)) → Apart ns → Apart (fold with_name ns more)
added_apart [] ns apart = apart
added_apart (n ∷ more) ns apart = added_apart more (with_name ns n) (by_test (is_among ns n) refl)
  where
    by_test : (b : Bool) → is_among ns n ≡ b → Apart (if b then ns else ns ++ n ∷ [])
    by_test true e = apart
    by_test false e = apart_push ns n apart e

-- and are as many at most
pub added_length : (more ns : List (List ℕ)) → length (fold with_name ns more) ≤ length ns + length more
added_length [] ns = omega arith
added_length (n ∷ more) ns = let a = added_length more (with_name ns n) in let b = by_test (is_among ns n) in omega arith
  where
    by_test : (b : Bool) → length (if b then ns else ns ++ n ∷ []) ≤ length ns + 1
    by_test true = omega arith
    by_test false = let e = length-append ns (n ∷ []) in omega arith
