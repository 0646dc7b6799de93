-- What holds of each item of a list, made of what holds of its items.
use Rattle.std.proofs.Common.{◌≡◌, ℕ, zero, suc, List, [], ◌∷◌, Some, refl, subst, arith}
use Rattle.std.specs.Prelude.{All, slice_get}
use Rattle.obj_core.specs.Object.{Each}

-- what holds at each index
pub each_all : {T : Type 0} (P : T → Type 0) (xs : List T) → All P xs → Each P xs
each_all P [] h = tt
each_all P (x ∷ xs) h = (h 0 x (omega arith), each_all P xs (λ k d lt. h (suc k) d (omega (arith, lt))))

-- what holds of each item that can be got
pub each_got : {T : Type 0} (P : T → Type 0) (xs : List T) → ((n : ℕ) (x : T) → slice_get xs n ≡ Some x → P x) → Each P xs
each_got P [] h = tt
each_got P (x ∷ xs) h = (h 0 x refl, each_got P xs (λ n y e. h (suc n) y e))

-- and what holds of each, of one
pub got_each : {T : Type 0} (P : T → Type 0) (xs : List T) (n : ℕ) (x : T) → Each P xs → slice_get xs n ≡ Some x → P x
got_each P [] n x h e = absurd (cc)
got_each P (y ∷ ys) zero x h e = let same : y ≡ x = cc in subst P same h.0
got_each P (y ∷ ys) (suc n) x h e = got_each P ys n x h.1 e
