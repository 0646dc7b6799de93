-- Names that begin with few zero bytes, names that begin with many, and names that are numbers.
use Rattle.std.proofs.Common.{◌≡◌, ◌≢◌, ℕ, zero, suc, ◌+◌, ◌*◌, ◌%◌, ◌/◌, ◌^◌, ◌<◌, ◌≤◌, Bool, true, false, List, [], ◌∷◌, ◌++◌, refl, ap, sym, ◌∙◌, arith, true≢false}
use Rattle.std.specs.Prelude.{nat_eq}
use Rattle.std.proofs.lemmas.Bool.{and_parts, and_from, eqb-true, eq-eqb}
use Rattle.rd_num.specs.Number.{le_bytes}
use Rattle.ir_core.specs.Names.{same_name}
use Rattle.switch_lower.specs.Fresh.{zeros_of, zero_bytes, test_name, chunk_name}

-- a number that is found equal is equal
pub number_is : (a b : ℕ) → nat_eq a b ≡ true → a ≡ b
number_is a b e = eqb-true a b e

-- names that are found the same are the same
pub name_is : (a b : List ℕ) → same_name a b ≡ true → a ≡ b
name_is [] [] e = refl
name_is [] (y ∷ ys) e = absurd (true≢false (sym e))
name_is (x ∷ xs) [] e = absurd (true≢false (sym e))
name_is (x ∷ xs) (y ∷ ys) e =
    let p = and_parts (nat_eq x y) (same_name xs ys) e in
    ap (λ n. n ∷ xs) (number_is x y p.0) ∙ ap (λ l. y ∷ l) (name_is xs ys p.1)

-- and a name is found the same as itself
pub name_itself : (a : List ℕ) → same_name a a ≡ true
name_itself [] = refl
name_itself (x ∷ xs) = and_from (nat_eq x x) (same_name xs xs) (eq-eqb x x refl) (name_itself xs)

-- names that differ in zero bytes aren't found the same
pub apart : (a b : List ℕ) → zeros_of a ≢ zeros_of b → same_name a b ≡ false
apart a b differ = by_test (same_name a b) refl
  where
    by_test : (t : Bool) → same_name a b ≡ t → t ≡ false
    by_test true e = absurd (differ (ap zeros_of (name_is a b e)))
    by_test false e = refl

-- zero bytes in front
pub zeros_in_front : (k : ℕ) (rest : List ℕ) → zeros_of (zero_bytes k ++ rest) ≡ k + zeros_of rest
zeros_in_front zero rest = omega arith
zeros_in_front (suc k) rest = let e = zeros_in_front k rest in omega arith

-- new names have many
pub test_zeros : (k : ℕ) → zeros_of (test_name k) ≡ k
test_zeros zero = refl
test_zeros (suc k) = let e = test_zeros k in omega arith

pub chunk_zeros : (k at : ℕ) → k ≤ zeros_of (chunk_name k at)
chunk_zeros k at = let e = zeros_in_front k (le_bytes 8 at) in omega arith

-- words below 2^64 differ in their bytes
bytes_differ : (k a b : ℕ) → a < 256 ^ k → b < 256 ^ k → le_bytes k a ≡ le_bytes k b → a ≡ b
bytes_differ zero a b low low2 e = omega arith
bytes_differ (suc k) a b low low2 e =
    let whole : 256 ^ suc k ≡ 256 * 256 ^ k = omega arith in
    let heads : a % 256 ≡ b % 256 = cc in
    let tails : le_bytes k (a / 256) ≡ le_bytes k (b / 256) = cc in
    let rest = bytes_differ k (a / 256) (b / 256) (omega arith) (omega arith) tails in
    omega arith

front_gone : (k : ℕ) (xs ys : List ℕ) → zero_bytes k ++ xs ≡ zero_bytes k ++ ys → xs ≡ ys
front_gone zero xs ys e = e
front_gone (suc k) xs ys e = front_gone k xs ys (cc)

-- so labels of different numbers differ
pub chunk_names_differ : (k a b : ℕ) → a < 2 ^ 64 → b < 2 ^ 64 → chunk_name k a ≡ chunk_name k b → a ≡ b
chunk_names_differ k a b low low2 e = bytes_differ 8 a b low low2 (front_gone k (le_bytes 8 a) (le_bytes 8 b) e)
