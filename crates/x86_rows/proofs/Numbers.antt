-- Numbers as bytes: what is kept of a number by its lowest bytes.
use Rattle.std.proofs.Common.{◌≡◌, ℕ, zero, suc, ◌+◌, ◌*◌, ◌/◌, ◌%◌, ◌^◌, ◌<◌, ◌∷◌, length, refl, ◌∙◌, ap, arith, lit≤}
use Rattle.std.proofs.Math.Arith.{mod-mul}
use Rattle.std.proofs.Math.Nat.{pow-suc}
use Rattle.rd_num.specs.Number.{le_bytes, le_number}

-- a power of 256 is some number
some_power : (k : ℕ) → 0 < 256 ^ k
some_power zero = lit≤ tt
some_power (suc k) = let e = pow-suc 256 k in omega (arith, e, some_power k)

-- a number below 256^(k + 1): the low byte, and the others
cut : (k n : ℕ) → n % 256 ^ suc k ≡ (n / 256 % 256 ^ k) * 256 + n % 256
cut k n = ap (λ m. n % m) (pow-suc 256 k) ∙ mod-mul n (some_power k) (lit≤ tt)

-- the bytes of a number spell it back, as far as they go
pub number_again : (k n : ℕ) → le_number (le_bytes k n) ≡ n % 256 ^ k
number_again zero n = omega arith
number_again (suc k) n = let e = cut k n in omega (arith, e, number_again k (n / 256))

-- bytes beyond these don't count
pub bytes_low : (k n : ℕ) → le_bytes k (n % 256 ^ k) ≡ le_bytes k n
bytes_low zero n = refl
bytes_low (suc k) n =
    let e = cut k n in
    let first : n % 256 ^ suc k % 256 ≡ n % 256 = omega (arith, e) in
    let others : n % 256 ^ suc k / 256 ≡ n / 256 % 256 ^ k = omega (arith, e) in
    ap (λ b. b ∷ le_bytes k (n % 256 ^ suc k / 256)) first ∙ ap (λ bs. n % 256 ∷ bs) (ap (le_bytes k) others ∙ bytes_low k (n / 256))

pub bytes_length : (k n : ℕ) → length (le_bytes k n) ≡ k
bytes_length zero n = refl
bytes_length (suc k) n = ap suc (bytes_length k (n / 256))
