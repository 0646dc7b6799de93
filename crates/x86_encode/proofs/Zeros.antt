-- The zeros behind the bytes that are put together.
use Rattle.std.proofs.Common.{◌≡◌, ℕ, ◌+◌, ◌-◌, ◌<◌, ◌≤◌, List, ◌++◌, length, take, drop, set, ap, sym, ◌∙◌, arith}
use Rattle.std.specs.Prelude.{replicate}
use Rattle.std.proofs.lemmas.Grind.{common_steps}
use Rattle.std.proofs.lemmas.List.{drop-drop, drop-set-lt, drop-replicate}

-- a byte more leaves one zero less
pub zeros_behind : (xs : List ℕ) (n m b : ℕ) → m ≡ n + 1 → n < 16 → drop n xs ≡ replicate (16 - n) 0 → drop m (set xs n b) ≡ replicate (16 - m) 0
zeros_behind xs n m b e h z =
    let lt : n < m = omega arith in
    let one : drop m (set xs n b) ≡ drop m xs = drop-set-lt m xs n b lt in
    let two : drop m xs ≡ drop (n + 1) xs = ap (λ k. drop k xs) e in
    let three : drop 1 (drop n xs) ≡ drop 1 (replicate (16 - n) 0) = ap (drop 1) z in
    let four : drop 1 (replicate {A = ℕ} (16 - n) 0) ≡ replicate (16 - n - 1) 0 = drop-replicate 1 (16 - n) 0 in
    let left : 16 - n - 1 ≡ 16 - m = omega arith in
    let five : replicate (16 - n - 1) 0 ≡ replicate (16 - m) 0 = ap (λ k. replicate k 0) left in
    one ∙ two ∙ sym (drop-drop 1 n xs) ∙ three ∙ four ∙ five

-- bytes and zeros are the whole
pub bytes_and_zeros : (xs : List ℕ) (n : ℕ) → n ≤ 16 → length xs ≡ 16 → drop n xs ≡ replicate (16 - n) 0 → xs ≡ take n xs ++ replicate (16 - length (take n xs)) 0
bytes_and_zeros xs n h l z = grind (arith, common_steps)
