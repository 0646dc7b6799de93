-- Where the numbers of an order stand in it.
use Rattle.std.proofs.Common.{◌≡◌, ℕ, zero, suc, ◌+◌, ◌<◌, Bool, true, false, List, [], ◌∷◌, length, Some, if◌then◌else◌, refl, ◌∙◌, ap, arith}
use Rattle.std.specs.Prelude.{nat_eq, slice_get, slice_index}
use Rattle.std.proofs.lemmas.Bool.{eqb-true}
use Rattle.std.proofs.lemmas.List.FromFn.{get_or-map-range_with_len, length-map-range_with_len}
use Rattle.std.proofs.lemmas.List.{get_or_default}
use Rattle.std.proofs.lemmas.Option.{slice_get-get_or}
use Rattle.rd_draw.specs.Draw.{shuffled}
use Rattle.rd_draw.proofs.Permuted.{shuffled_long, shuffled_below, shuffled_holds, shuffled_apart}
use Rattle.obj_core.specs.Placement.{index_in, inverse}

-- a number stands at its place
pub record IsListed (xs : List ℕ) (n : ℕ) : Type 0 where
  pub within : index_in xs n < length xs
  pub there : slice_index xs (index_in xs n) ≡ n

-- a number that stands somewhere stands at its place
place_found : (xs : List ℕ) (n i : ℕ) → i < length xs → slice_index xs i ≡ n → IsListed xs n
place_found [] n i lt e = absurd (omega (arith, lt))
place_found (x ∷ xs) n zero lt e =
    let test : nat_eq x n ≡ true = grind (arith, e) in
    let here : index_in (x ∷ xs) n ≡ 0 = ap (λ t. if t then 0 else index_in xs n + 1) test in
    record { within = omega (arith, here); there = ap (slice_index (x ∷ xs)) here ∙ e }
place_found (x ∷ xs) n (suc i) lt e = by_test (place_found xs n i (omega (arith, lt)) e) (nat_eq x n) refl
  where
    by_test : IsListed xs n → (t : Bool) → nat_eq x n ≡ t → IsListed (x ∷ xs) n
    by_test later true same =
        let here : index_in (x ∷ xs) n ≡ 0 = ap (λ t. if t then 0 else index_in xs n + 1) same in
        record { within = omega (arith, here); there = ap (slice_index (x ∷ xs)) here ∙ eqb-true x n same }
    by_test later false other =
        let behind : index_in (x ∷ xs) n ≡ index_in xs n + 1 = ap (λ t. if t then 0 else index_in xs n + 1) other in
        let next : index_in (x ∷ xs) n ≡ suc (index_in xs n) = omega (arith, behind) in
        let within : index_in xs n < length xs = later.within in
        record { within = omega (arith, next, within); there = ap (slice_index (x ∷ xs)) next ∙ later.there }

-- each number below n stands in a shuffle
pub shuffled_stands : (words : ℕ → ℕ) (n k : ℕ) → k < n → IsListed (shuffled words n) k
shuffled_stands words n k lt =
    let x = shuffled_holds words n k lt in
    place_found (shuffled words n) k x.0 x.1 (get_or_default (shuffled words n) x.0 0 k x.1 ∙ x.2)

-- the place of what stands at a place is this place
pub place_again : (words : ℕ → ℕ) (n k : ℕ) → k < n → index_in (shuffled words n) (slice_index (shuffled words n) k) ≡ k
place_again words n k lt =
    let long = shuffled_long words n in
    let within : k < length (shuffled words n) = omega (arith, long) in
    let x = place_found (shuffled words n) (slice_index (shuffled words n) k) k within refl in
    shuffled_apart words n (index_in (shuffled words n) (slice_index (shuffled words n) k)) k x.within within x.there

-- each number of a shuffle is below n
pub index_below : (words : ℕ → ℕ) (n k : ℕ) → k < n → slice_index (shuffled words n) k < n
index_below words n k lt = shuffled_below words n k 0 (let long = shuffled_long words n in omega (arith, long))

-- the inverse has the place of each number
pub inverse_index : (xs : List ℕ) (p : ℕ) → p < length xs → slice_index (inverse xs) p ≡ index_in xs p
inverse_index xs p lt = get_or-map-range_with_len (index_in xs) 0 (length xs) p p 0 lt (omega arith)

-- the inverse is as long
pub inverse_long : (xs : List ℕ) → length (inverse xs) ≡ length xs
inverse_long xs = length-map-range_with_len (index_in xs) 0 (length xs)

-- and has an entry for each number
pub inverse_get : (xs : List ℕ) (p : ℕ) → p < length xs → slice_get (inverse xs) p ≡ Some (index_in xs p)
inverse_get xs p lt =
    let long = inverse_long xs in
    slice_get-get_or (inverse xs) p 0 (omega (arith, long)) ∙ ap Some (inverse_index xs p lt)
