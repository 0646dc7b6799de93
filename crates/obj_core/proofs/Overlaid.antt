-- Bytes that are put over others, behind a front that stays.
use Rattle.std.proofs.Common.{◌≡◌, ℕ, ◌+◌, ◌-◌, ◌≤◌, List, [], ◌∷◌, ◌++◌, length, take, drop, refl, sym, ◌∙◌, ap, arith}
use Rattle.std.specs.Prelude.{slice_set}
use Rattle.std.proofs.Math.ListN.{take-append-drop}
use Rattle.std.proofs.lemmas.List.{set-append_right, set-append_left, length-set, length-take, length-drop}
use Rattle.obj_core.specs.Placement.{overlaid}

set_behind : (xs ys : List ℕ) (n k j b : ℕ) → length xs ≡ n → j ≡ n + k → slice_set (xs ++ ys) j b ≡ xs ++ slice_set ys k b
set_behind xs ys n k j b e h =
    let back : j - n ≡ k = omega arith in
    set-append_right xs ys n j b e (omega arith) ∙ ap (λ i. xs ++ slice_set ys i b) back

-- bytes that are put behind a front
pub overlaid_behind : (xs ys bs : List ℕ) (n k j : ℕ) → length xs ≡ n → j ≡ n + k → overlaid (xs ++ ys) j bs ≡ xs ++ overlaid ys k bs
overlaid_behind xs ys [] n k j e h = refl
overlaid_behind xs ys (b ∷ bs) n k j e h =
    ap (λ all. overlaid all (j + 1) bs) (set_behind xs ys n k j b e h) ∙
    overlaid_behind xs (slice_set ys k b) bs n (k + 1) (j + 1) e (omega arith)

-- as many bytes as before
pub overlaid_long : (xs : List ℕ) (k : ℕ) (bs : List ℕ) → length (overlaid xs k bs) ≡ length xs
overlaid_long xs k [] = refl
overlaid_long xs k (b ∷ bs) = overlaid_long (slice_set xs k b) (k + 1) bs ∙ length-set xs k b

-- bytes in the place of as many that come first
pub overlaid_first : (xs ys bs : List ℕ) → length xs ≡ length bs → overlaid (xs ++ ys) 0 bs ≡ bs ++ ys
overlaid_first [] ys [] e = refl
overlaid_first [] ys (b ∷ bs) e = absurd (omega (arith, e))
overlaid_first (x ∷ xs) ys [] e = absurd (omega (arith, e))
overlaid_first (x ∷ xs) ys (b ∷ bs) e =
    overlaid_behind (b ∷ []) (xs ++ ys) bs 1 0 1 refl refl ∙ ap (λ zs. b ∷ zs) (overlaid_first xs ys bs (omega (arith, e)))

-- bytes that are put inside the first of two lists
overlaid_left : (xs ys bs : List ℕ) (k : ℕ) → k + length bs ≤ length xs → overlaid (xs ++ ys) k bs ≡ overlaid xs k bs ++ ys
overlaid_left xs ys [] k h = refl
overlaid_left xs ys (b ∷ bs) k h =
    let long = length-set xs k b in
    ap (λ all. overlaid all (k + 1) bs) (set-append_left xs ys k b (omega (arith, h))) ∙
    overlaid_left (slice_set xs k b) ys bs (k + 1) (omega (arith, h, long))

-- all that is put, between what stays
pub overlaid_parts : (xs bs : List ℕ) (n : ℕ) → n + length bs ≤ length xs → overlaid xs n bs ≡ take n xs ++ (bs ++ drop (length bs) (drop n xs))
overlaid_parts xs bs n h =
    let long : length (take n xs) ≡ n = omega (arith, length-take n xs, h) in
    let mid : length (take (length bs) (drop n xs)) ≡ length bs = omega (arith, length-take (length bs) (drop n xs), length-drop n xs, h) in
    ap (λ ys. overlaid ys n bs) (sym (take-append-drop n xs)) ∙
    overlaid_behind (take n xs) (drop n xs) bs n 0 n long (omega arith) ∙
    ap (λ ys. take n xs ++ overlaid ys 0 bs) (sym (take-append-drop (length bs) (drop n xs))) ∙
    ap (λ ys. take n xs ++ ys) (overlaid_first (take (length bs) (drop n xs)) (drop (length bs) (drop n xs)) bs mid)

-- bytes that are put inside others that were put before
pub overlaid_inside : (xs bs cs : List ℕ) (n k : ℕ) → n + length bs ≤ length xs → k + length cs ≤ length bs → overlaid (overlaid xs n bs) (n + k) cs ≡ overlaid xs n (overlaid bs k cs)
overlaid_inside xs bs cs n k h g =
    let long : length (take n xs) ≡ n = omega (arith, length-take n xs, h) in
    let same : length (overlaid bs k cs) ≡ length bs = overlaid_long bs k cs in
    let rest = drop (length bs) (drop n xs) in
    ap (λ ys. overlaid ys (n + k) cs) (overlaid_parts xs bs n h) ∙
    overlaid_behind (take n xs) (bs ++ rest) cs n k (n + k) long refl ∙
    ap (λ ys. take n xs ++ ys) (overlaid_left bs rest cs k g) ∙
    ap (λ m. take n xs ++ (overlaid bs k cs ++ drop m (drop n xs))) (sym same) ∙
    sym (overlaid_parts xs (overlaid bs k cs) n (omega (arith, h, same)))

-- bytes behind others
pub overlaid_both : (all xs ys : List ℕ) (at : ℕ) → overlaid all at (xs ++ ys) ≡ overlaid (overlaid all at xs) (at + length xs) ys
overlaid_both all [] ys at = let same : at ≡ at + 0 = omega arith in ap (λ k. overlaid all k ys) same
overlaid_both all (x ∷ xs) ys at =
    let further : at + 1 + length xs ≡ at + length (x ∷ xs) = omega arith in
    overlaid_both (slice_set all at x) xs ys (at + 1) ∙ ap (λ k. overlaid (overlaid (slice_set all at x) (at + 1) xs) k ys) further
