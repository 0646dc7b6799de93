-- The numbers below n in order.
use Rattle.std.proofs.Common.{◌≡◌, ◌∙◌, ap, ℕ, zero, suc, ◌+◌, ◌<◌, [], ◌∷◌, ◌++◌, length, get_or, arith, add-one}
use Rattle.std.proofs.lemmas.List.FromFn.{get_or-range_with_len, length-range_with_len}
use Rattle.std.specs.List.{range_with_len}

-- one number more stands at the end
from_more : (a n j : ℕ) → a + n ≡ j → range_with_len a (suc n) ≡ range_with_len a n ++ j ∷ []
from_more a zero j e = ap (λ k. k ∷ []) (let same : a ≡ j = omega arith in same)
from_more a (suc n) j e = ap (λ ks. a ∷ ks) (from_more (a + 1) n j (omega arith))

pub numbers_more : (n : ℕ) → range_with_len 0 (n + 1) ≡ range_with_len 0 n ++ n ∷ []
numbers_more n = rw add-one (from_more 0 n n (omega arith))

pub numbers_long : (n : ℕ) → length (range_with_len 0 n) ≡ n
numbers_long n = length-range_with_len 0 n

-- at its own place stands each
pub numbers_at : (n i d : ℕ) → i < n → get_or (range_with_len 0 n) i d ≡ i
numbers_at n i d h = get_or-range_with_len 0 n i d h ∙ omega arith
