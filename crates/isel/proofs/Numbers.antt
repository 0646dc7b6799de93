-- Sums modulo 2^64, as a pointer that moves adds them up.
use Rattle.std.proofs.Common.{◌≡◌, ℕ, suc, ◌+◌, ◌*◌, ◌-◌, ◌%◌, ◌^◌, ◌<◌, Bool, true, false, refl, ap, sym, ◌∙◌, arith}
use Rattle.std.specs.Prelude.{nat_le, nat_lt, if◌then◌else◌}
use Rattle.std.proofs.Math.Nat.{add-mod-mod, mod-add-mod, mod-eq_of_lt}
use Rattle.std.proofs.lemmas.Nat.{mul-mod_first, mul-mod_second}
use Rattle.std.proofs.lemmas.Bool.{ltb-true, lt-leb, leb-false, le-leb}
use Rattle.rd_num.specs.declared.width.Width.{Width}
use Rattle.rd_num.specs.declared.width.Width.TheVariants.{W1, W8, W16, W32, W64}
use Rattle.ir_core.specs.declared.instruction.CastOp.TheVariants.{Sext}
use Rattle.ir_core.specs.Arithmetic.{modulus, cast}
use Rattle.ir_core.specs.Kinds.{signed_word}

-- a remainder of a remainder
mod_twice : (a m : ℕ) → a % m % m ≡ a % m
mod_twice a m = let x = mod-add-mod a m 0 in let y : a % m + 0 ≡ a % m = omega arith in let z : a + 0 ≡ a = omega arith in ap (λ n. n % m) (sym y) ∙ x ∙ ap (λ n. n % m) z

-- one summand of a product
pub step_sum : (m b i size : ℕ) → (b % m + (i % m % m * (size % m)) % m % m) % m ≡ (b + i * size) % m
step_sum m b i size =
    let product : (i % m % m * (size % m)) % m % m ≡ (i * size) % m =
    mod_twice (i % m % m * (size % m)) m ∙ mul-mod_second (i % m % m) size m ∙ mul-mod_first (i % m) size m ∙ mul-mod_first i size m in
    ap (λ p. (b % m + p) % m) product ∙ mod-add-mod b m ((i * size) % m) ∙ add-mod-mod b (i * size) m

-- sums of sums
pub sum_sums : (m b c d e : ℕ) → (b ≡ (c + d) % m) → (b + e) % m ≡ (c + (d + e)) % m
sum_sums m b c d e is = let x : c + d + e ≡ c + (d + e) = omega arith in ap (λ n. (n + e) % m) is ∙ mod-add-mod (c + d) m e ∙ ap (λ n. n % m) x

-- a number with its sign, by half of the numbers of its width and by all of them
cast_at : (half size n : ℕ) → n < size → (if nat_le half (n % size) then n % size + (2 ^ 64 - size) else n % size) % 2 ^ 64 ≡ (if nat_lt n half then n else (n + (2 ^ 64 - size))) % 2 ^ 64
cast_at half size n within = ap (λ k. (if nat_le half k then k + (2 ^ 64 - size) else k) % 2 ^ 64) (mod-eq_of_lt within) ∙ of_test (nat_lt n half) refl
  where
    of_test : (b : Bool) → nat_lt n half ≡ b → (if nat_le half n then n + (2 ^ 64 - size) else n) % 2 ^ 64 ≡ (if b then n else (n + (2 ^ 64 - size))) % 2 ^ 64
    of_test true e = ap (λ t. (if t then n + (2 ^ 64 - size) else n) % 2 ^ 64) (lt-leb half n (ltb-true n half e))
    of_test false e =
        let high : half < suc n = leb-false (suc n) half e in
        ap (λ t. (if t then n + (2 ^ 64 - size) else n) % 2 ^ 64) (le-leb half n (omega arith))

-- an index is widened with its sign
pub index_cast : (w : Width) (n : ℕ) → n < modulus w → cast Sext w W64 (n % modulus w) ≡ signed_word w n % 2 ^ 64
index_cast W1 n within = cast_at 1 2 n within
index_cast W8 n within = cast_at (2 ^ 7) (2 ^ 8) n within
index_cast W16 n within = cast_at (2 ^ 15) (2 ^ 16) n within
index_cast W32 n within = cast_at (2 ^ 31) (2 ^ 32) n within
index_cast W64 n within = cast_at (2 ^ 63) (2 ^ 64) n within
