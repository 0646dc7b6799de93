-- Zeros behind bytes don't change the number that they spell.
use Rattle.std.specs.Prelude.{replicate}
use Rattle.std.proofs.Common.{◌≡◌, ℕ, ◌+◌, ◌*◌, zero, suc, List, [], ◌∷◌, ◌++◌, drop, refl, ap, arith, length, take}
use Rattle.std.proofs.lemmas.List.{take_at}
use Rattle.rd_num.specs.Number.{le_number}

le_number-drop : (zs : List ℕ) (k : ℕ) → le_number zs ≡ 0 → le_number (drop k zs) ≡ 0
le_number-drop [] zero e = refl
le_number-drop [] (suc k) e = refl
le_number-drop (z ∷ zs) zero e = e
le_number-drop (z ∷ zs) (suc k) e = le_number-drop zs k (omega arith)

le_number-behind : (bs zs : List ℕ) → le_number zs ≡ 0 → le_number (bs ++ zs) ≡ le_number bs
le_number-behind [] zs e = e
le_number-behind (b ∷ bs) zs e = ap (λ n. b + 256 * n) (le_number-behind bs zs e)

pub le_number_padded : (bs : List ℕ) (k : ℕ) (zs : List ℕ) → le_number zs ≡ 0 → le_number (bs ++ drop k zs) ≡ le_number bs
le_number_padded bs k zs e = le_number-behind bs (drop k zs) (le_number-drop zs k e)

pub le_number_zeros : (k : ℕ) → le_number (replicate k 0) ≡ 0
le_number_zeros zero = refl
le_number_zeros (suc k) = let e : le_number (replicate k 0) ≡ 0 = le_number_zeros k in omega arith

-- the first bytes of a list that begins with them
pub take_known : (bs rest : List ℕ) (n : ℕ) → length bs ≡ n → take n (bs ++ rest) ≡ bs
take_known bs rest n e = take_at bs rest n e
