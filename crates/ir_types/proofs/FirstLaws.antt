-- The first place of what a loop goes over, one item after another.
use Rattle.std.proofs.Common.{◌≡◌, ℕ, zero, suc, ◌+◌, ◌<◌, ◌≤◌, Bool, true, false, List, [], ◌∷◌, ◌++◌, length, get_or, take, drop, Option, Some, None, refl, ap, sym, ◌∙◌, arith}
use Rattle.std.specs.Prelude.{◌&&◌, slice_get}
use Rattle.std.specs.Option.{option_or}
use Rattle.std.specs.List.{flat_map, list_all, enumerate_from}
use Rattle.std.proofs.Math.Seq.{drop-nil}
use Rattle.ir_core.specs.declared.limit.Spot.{Spot}
use Rattle.ir_core.specs.Valid.{unless}
use Rattle.ir_core.proofs.LoopLaws.{take_item, drop_item}

-- the first of two rows
pub first-append : {S : Type 0} (xs ys : List S) → slice_get (xs ++ ys) 0 ≡ option_or (slice_get xs 0) (slice_get ys 0)
first-append [] ys = refl
first-append (x ∷ xs) ys = refl

-- past the end nothing is left
pub drop_past : {X : Type 0} (xs : List X) (i : ℕ) → length xs ≤ i → drop i xs ≡ []
drop_past [] i past = drop-nil i
drop_past (x ∷ xs) zero past = absurd (omega arith)
drop_past (x ∷ xs) (suc i) past = drop_past xs i (omega arith)

module _ {X S : Type 0} (places : ℕ × X → List S) (xs : List X) (k : ℕ) (x : X) (inside : k < length xs) (item : x ≡ get_or xs k x) (whole : Option S) (so_far : slice_get (flat_map places (enumerate_from k (drop k xs))) 0 ≡ whole) where
  -- the first of the item, or else of the rest
  here : option_or (slice_get (places (k, x)) 0) (slice_get (flat_map places (enumerate_from (k + 1) (drop (k + 1) xs))) 0) ≡ whole
  here =
      sym (first-append (places (k, x)) (flat_map places (enumerate_from (k + 1) (drop (k + 1) xs))))
      ∙ sym (ap (λ ys. slice_get (flat_map places (enumerate_from k ys)) 0) (drop_item xs k x inside item)) ∙ so_far

  -- a place of the item is the first
  pub first_found : (s : S) → Some s ≡ slice_get (places (k, x)) 0 → Some s ≡ whole
  first_found s e = ap (λ o. option_or o (slice_get (flat_map places (enumerate_from (k + 1) (drop (k + 1) xs))) 0)) e ∙ here

  -- without one it is that of the rest
  pub first_passed : None ≡ slice_get (places (k, x)) 0 → slice_get (flat_map places (enumerate_from (k + 1) (drop (k + 1) xs))) 0 ≡ whole
  first_passed e = ap (λ o. option_or o (slice_get (flat_map places (enumerate_from (k + 1) (drop (k + 1) xs))) 0)) e ∙ here

-- once nothing is left there is none
pub first_end : {X S : Type 0} (places : ℕ × X → List S) (xs : List X) (k : ℕ) (whole : Option S) → length xs ≤ k → slice_get (flat_map places (enumerate_from k (drop k xs))) 0 ≡ whole → None ≡ whole
first_end places xs k whole past so_far = sym (ap (λ ys. slice_get (flat_map places (enumerate_from k ys)) 0) (drop_past xs k past)) ∙ so_far

-- a test that fails gives its place
pub unless_false : (b : Bool) (s : Spot) → b ≡ false → Some s ≡ slice_get (unless b s) 0
unless_false b s e = sym (ap (λ c. slice_get (unless c s) 0) e)

-- one that holds gives none
pub unless_true : (b : Bool) (s : Spot) → b ≡ true → None ≡ slice_get (unless b s) 0
unless_true b s e = sym (ap (λ c. slice_get (unless c s) 0) e)

-- one more item that passes or doesn't
pub all_more : {X : Type 0} (test : X → Bool) (xs : List X) (k : ℕ) (x : X) → k < length xs → x ≡ get_or xs k x → list_all test (take (k + 1) xs) ≡ (list_all test (take k xs) && test x)
all_more {X = X} test xs k x inside item = ap (list_all test) (take_item xs k x inside item) ∙ behind (take k xs)
  where
    last : (b : Bool) → (b && true) ≡ b
    last true = refl
    last false = refl

    grouped : (a b c : Bool) → (a && (b && c)) ≡ ((a && b) && c)
    grouped true b c = refl
    grouped false b c = refl

    behind : (ys : List X) → list_all test (ys ++ x ∷ []) ≡ (list_all test ys && test x)
    behind [] = last (test x)
    behind (y ∷ ys) = ap (λ b. test y && b) (behind ys) ∙ grouped (test y) (list_all test ys) (test x)
