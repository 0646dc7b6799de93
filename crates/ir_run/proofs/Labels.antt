-- The labels of a terminator among those that differ.
use Rattle.std.proofs.Common.{◌≡◌, ℕ, zero, suc, Bool, true, false, List, [], ◌∷◌, ◌++◌, Option, Some, None, slice_get, refl, ap, ◌∙◌, subst}
use Rattle.std.specs.Prelude.{option_map, if◌then◌else◌, fold, unwrap_or, not, ◌||◌}
use Rattle.ir_core.specs.Names.{same_name}
use Rattle.ir_core.specs.Definitions.{is_among}
use Rattle.ir_context.specs.Registers.{number_of}
use Rattle.ir_core.proofs.NameSets.{same_name-sym}
use Rattle.ir_context.proofs.RegisterLaws.{named_there, same_itself}
use Rattle.ir_program.specs.Exits.{with_new, distinct, edge_number}

-- a name that has a number
abbrev pub Has : List (List ℕ) → List ℕ → Type 0
Has names q = (k : ℕ) × (number_of names q ≡ Some k)

-- names that stand behind others
has_more : (names more : List (List ℕ)) (q : List ℕ) → Has names q → Has (names ++ more) q
has_more [] more q h = let e = h.1 in absurd (cc)
has_more (n ∷ names) more q h = by (same_name n q) (number_of names q) (λ i e. has_more names more q (i, e)) refl h.0 h.1
  where
    by : (b : Bool) (o : Option ℕ) → ((i : ℕ) → number_of names q ≡ Some i → Has (names ++ more) q) → number_of names q ≡ o → (k : ℕ) → (if b then Some 0 else option_map (λ i. suc i) o) ≡ Some k
        → (j : ℕ) × ((if b then Some 0 else option_map (λ i. suc i) (number_of (names ++ more) q)) ≡ Some j)
    by true o go is k e = (0, refl)
    by false (Some i) go is k e = let h = go i is in (suc h.0, ap (option_map (λ i. suc i)) h.1)
    by false None go is k e = absurd (cc)

-- a name that is put behind others
has_last : (names : List (List ℕ)) (q : List ℕ) → Has (names ++ q ∷ []) q
has_last [] q = (0, ap (λ b. if b then Some 0 else None) (same_itself q))
has_last (n ∷ names) q = by (same_name n q) (has_last names q)
  where
    by : (b : Bool) → Has (names ++ q ∷ []) q → (j : ℕ) × ((if b then Some 0 else option_map (λ i. suc i) (number_of (names ++ q ∷ []) q)) ≡ Some j)
    by true h = (0, refl)
    by false h = (suc h.0, ap (option_map (λ i. suc i)) h.1)

-- a name that is among others
has_among : (names : List (List ℕ)) (q : List ℕ) → is_among names q ≡ true → Has names q
has_among [] q e = absurd (cc)
has_among (n ∷ names) q e = by (same_name n q) (λ f. has_among names q f) (ap (λ b. b || is_among names q) (same_name-sym n q) ∙ e)
  where
    by : (b : Bool) → (is_among names q ≡ true → Has names q) → (b || is_among names q) ≡ true
        → (j : ℕ) × ((if b then Some 0 else option_map (λ i. suc i) (number_of names q)) ≡ Some j)
    by true go e = (0, refl)
    by false go e = let h = go e in (suc h.0, ap (option_map (λ i. suc i)) h.1)

-- one more name
with_new_has : (names : List (List ℕ)) (n q : List ℕ) → Has names q → Has (with_new names n) q
with_new_has names n q h = by (is_among names n)
  where
    by : (b : Bool) → Has (if not b then names ++ n ∷ [] else names) q
    by true = h
    by false = has_more names (n ∷ []) q h

with_new_itself : (names : List (List ℕ)) (n : List ℕ) → Has (with_new names n) n
with_new_itself names n = by (is_among names n) refl
  where
    by : (b : Bool) → is_among names n ≡ b → Has (if not b then names ++ n ∷ [] else names) n
    by true e = has_among names n e
    by false e = has_last names n

-- names that were there stay
stays : (before names : List (List ℕ)) (q : List ℕ) → Has before q → Has (fold with_new before names) q
stays before [] q h = h
stays before (n ∷ names) q h = stays (with_new before n) names q (with_new_has before n q h)

-- each name is there
comes : (before names : List (List ℕ)) (i : ℕ) (q : List ℕ) → slice_get names i ≡ Some q → Has (fold with_new before names) q
comes before [] i q e = absurd (cc)
comes before (n ∷ names) zero q e = let same : n ≡ q = cc in stays (with_new before n) names q (let P : List ℕ → Type 0 = λ r. Has (with_new before n) r in subst P same (with_new_itself before n))
comes before (n ∷ names) (suc i) q e = comes (with_new before n) names i q e

-- the label of a number among those that differ
pub label_there : (labels : List (List ℕ)) (i : ℕ) (q : List ℕ) → slice_get labels i ≡ Some q → slice_get (distinct labels) (edge_number (distinct labels) q) ≡ Some q
label_there labels i q e =
    let h = comes [] labels i q e in
    ap (λ o. slice_get (distinct labels) (unwrap_or o 0)) h.1 ∙ named_there (distinct labels) q h.0 h.1
