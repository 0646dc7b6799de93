-- Where functions begin among the bytes of all.
use Rattle.std.proofs.Common.{◌≡◌, ℕ, zero, suc, ◌+◌, ◌<◌, ◌≤◌, List, [], ◌∷◌, length, Some, refl, ◌∙◌, ap, arith}
use Rattle.std.specs.Prelude.{slice_get, slice_index}
use Rattle.std.specs.List.{sum_by}
use Rattle.std.proofs.lemmas.List.Sums.{sum_by-cons}
use Rattle.obj_core.specs.declared.object.Func.{Func}
use Rattle.obj_core.specs.Plans.{fronts_from}

-- all bytes of code
abbrev pub code_len : List Func → ℕ
code_len fs = sum_by (λ (f : Func). length f.bytes) fs

-- how many bytes the functions before one have
abbrev pub front_of : List Func → ℕ → ℕ
front_of [] n = 0
front_of (f ∷ fs) zero = 0
front_of (f ∷ fs) (suc n) = length f.bytes + front_of fs n

pub front_first : (fs : List Func) → front_of fs 0 ≡ 0
front_first [] = refl
front_first (f ∷ fs) = refl

-- the front of the next one
pub front_next : (fs : List Func) (n : ℕ) (f : Func) → slice_get fs n ≡ Some f → front_of fs (suc n) ≡ front_of fs n + length f.bytes
front_next [] n f e = absurd (cc)
front_next (g ∷ fs) zero f e =
    let same : g ≡ f = cc in
    let none = front_first fs in
    let whole : length g.bytes + front_of fs 0 ≡ length g.bytes = omega (arith, none) in
    let more : length f.bytes ≡ 0 + length f.bytes = omega arith in
    whole ∙ ap (λ (x : Func). length x.bytes) same ∙ more
front_next (g ∷ fs) (suc n) f e = let x = front_next fs n f e in omega (arith, x)

-- no function reaches behind all bytes
pub front_small : (fs : List Func) (n : ℕ) (f : Func) → slice_get fs n ≡ Some f → front_of fs n + length f.bytes ≤ code_len fs
front_small [] n f e = absurd (cc)
front_small (g ∷ fs) zero f e =
    let same : length g.bytes ≡ length f.bytes = ap (λ (x : Func). length x.bytes) (first g f e) in
    let whole = sum_by-cons (λ (x : Func). length x.bytes) g fs in
    omega (arith, same, whole)
  where
    first : (x y : Func) → Some x ≡ Some y → x ≡ y
    first x y h = cc
front_small (g ∷ fs) (suc n) f e =
    let x = front_small fs n f e in
    let whole = sum_by-cons (λ (x : Func). length x.bytes) g fs in
    omega (arith, x, whole)

-- the list of fronts has each of them
pub fronts_get : (fs : List Func) (n front : ℕ) → n ≤ length fs → slice_index (fronts_from front fs) n ≡ front + front_of fs n
fronts_get [] zero front le = omega arith
fronts_get [] (suc n) front le = absurd (omega (arith, le))
fronts_get (f ∷ fs) zero front le = omega arith
fronts_get (f ∷ fs) (suc n) front le = let x = fronts_get fs n (front + length f.bytes) (omega (arith, le)) in omega (arith, x)

-- and no other
pub fronts_past : (fs : List Func) (n front : ℕ) → length fs < n → slice_index (fronts_from front fs) n ≡ 0
fronts_past [] zero front le = absurd (omega (arith, le))
fronts_past [] (suc n) front le = refl
fronts_past (f ∷ fs) zero front le = absurd (omega (arith, le))
fronts_past (f ∷ fs) (suc n) front le = fronts_past fs n (front + length f.bytes) (omega (arith, le))
