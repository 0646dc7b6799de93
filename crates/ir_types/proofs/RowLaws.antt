-- Rows of different lengths are not the same, and a row by its numbers.
use Rattle.std.proofs.Common.{◌≡◌, ◌≢◌, ℕ, zero, ◌+◌, suc, Bool, true, false, List, [], ◌∷◌, length, drop, arith, get_or, ◌<◌, map, refl, ap, sym, ◌∙◌}
use Rattle.std.specs.Prelude.{◌&&◌, slice_get}
use Rattle.std.specs.Option.{option_map_or}
use Rattle.std.specs.List.{list_all}
use Rattle.std.proofs.Math.Seq.{drop-nil}
use Rattle.ir_core.proofs.LoopLaws.{drop_item}
use Rattle.ir_core.specs.declared.ty.Ty.{Ty}
use Rattle.ir_core.specs.declared.kind.Kind.{Kind}
use Rattle.ir_core.specs.Kinds.{kind_of, same_kind}
use Rattle.ir_core.specs.Calls.{same_kinds}

-- what is false on the right is false
and_false : (a b : Bool) → false ≡ b → false ≡ (a && b)
and_false true b e = e
and_false false b e = refl

-- kinds of types against kinds
pub kinds_differ : (ts : List Ty) (ks : List Kind) → length ts ≢ length ks → false ≡ same_kinds (map kind_of ts) ks
kinds_differ [] [] other = absurd (other refl)
kinds_differ [] (k ∷ ks) other = refl
kinds_differ (t ∷ ts) [] other = refl
kinds_differ (t ∷ ts) (k ∷ ks) other = and_false (same_kind (kind_of t) k) (same_kinds (map kind_of ts) ks) (kinds_differ ts ks (λ e. other (ap (λ n. suc n) e)))

-- an item by its number and the items behind it
pub all_step : {X : Type 0} (test : X → Bool) (xs : List X) (k : ℕ) → list_all test (drop k xs) ≡ (option_map_or test (slice_get xs k) true && list_all test (drop (k + 1) xs))
all_step test [] k = ap (list_all test) (drop-nil k) ∙ sym (ap (list_all test) (drop-nil (k + 1)))
all_step test (x ∷ xs) zero = refl
all_step test (x ∷ xs) (suc k) = all_step test xs k ∙ (let e : k + 1 ≡ suc k = omega arith in let f : suc k + 1 ≡ suc (suc k) = omega arith in ap (λ n. option_map_or test (slice_get xs k) true && list_all test (drop n xs)) e ∙ sym (ap (λ n. option_map_or test (slice_get xs k) true && list_all test (drop n (x ∷ xs))) f))

module _ {X : Type 0} (test : X → Bool) (xs : List X) (i : ℕ) (x : X) (inside : i < length xs) (item : x ≡ get_or xs i x) where
  -- behind an item that passes the rest decides
  pub all_passed : test x ≡ true → list_all test (drop (i + 1) xs) ≡ list_all test (drop i xs)
  all_passed passes = sym (ap (list_all test) (drop_item xs i x inside item) ∙ ap (λ b. b && list_all test (drop (i + 1) xs)) passes)

  -- an item that fails decides
  pub all_failed : test x ≡ false → false ≡ list_all test (drop i xs)
  all_failed fails = sym (ap (list_all test) (drop_item xs i x inside item) ∙ ap (λ b. b && list_all test (drop (i + 1) xs)) fails)
