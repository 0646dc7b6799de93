-- Code while its displacements are filled in: a byte that is put at its address is a byte of its function.
use Rattle.std.proofs.Common.{◌≡◌, ℕ, zero, suc, ◌+◌, ◌-◌, ◌<◌, ◌≤◌, ◌⊎◌, inl, inr, Bool, true, false, List, [], ◌∷◌, ◌++◌, length, take, drop, Some, if◌then◌else◌, refl, sym, ◌∙◌, ap, arith}
use Rattle.std.specs.Prelude.{nat_eq, nat_lt, slice_get, slice_index, slice_set}
use Rattle.std.proofs.lemmas.Bool.Decides.{nat_tests}
use Rattle.std.proofs.lemmas.List.{length-replicate, length-take, length-set, drop-set-lt, drop-set-add, set-append_left, set_past}
use Rattle.obj_core.specs.declared.piece.Piece.{Piece}
use Rattle.obj_core.specs.declared.run.Run.{Run}
use Rattle.obj_core.specs.Pieces.{piece_len}
use Rattle.obj_core.specs.Placement.{filler, overlaid, displacement_bytes, start_behind, starts_from}
use Rattle.obj_core.specs.Runs.{address_at, put_at}
use Rattle.obj_core.specs.Layout.{Way, led, piece_bytes, code_from}
use Rattle.obj_core.proofs.Overlaid.{overlaid_behind, overlaid_long}
use Rattle.obj_core.proofs.Pieces.{Apart}
use Rattle.obj_lay.specs.Putting.{put_ways}

-- the bytes of functions, of which one has others
abbrev pub changed : (ℕ → List ℕ) → ℕ → List ℕ → ℕ → List ℕ
changed c n bytes m = if nat_eq m n then bytes else c m

-- code is by the bytes of its pieces
pub code_same : (c d : ℕ → List ℕ) → ((m : ℕ) → c m ≡ d m) → (end : ℕ) (starts : List ℕ) (ps : List Piece) → code_from c end starts ps ≡ code_from d end starts ps
code_same c d same end [] ps = refl
code_same c d same end (s ∷ ss) [] = refl
code_same c d same end (s ∷ ss) (p ∷ ps) =
    ap (λ bs. filler (s - end) ++ (take (piece_len p) (drop p.from bs) ++ code_from c (s + piece_len p) ss ps)) (same p.function) ∙
    ap (λ xs. filler (s - end) ++ (piece_bytes d p ++ xs)) (code_same c d same (s + piece_len p) ss ps)

-- a byte of the first bytes of a list
take_set : (n : ℕ) (xs : List ℕ) (i x : ℕ) → take n (slice_set xs i x) ≡ slice_set (take n xs) i x
take_set zero xs i x = refl
take_set (suc n) [] i x = refl
take_set (suc n) (y ∷ ys) zero x = refl
take_set (suc n) (y ∷ ys) (suc i) x = ap (λ r. y ∷ r) (take_set n ys i x)

-- a byte put behind a front
set_behind : (xs ys : List ℕ) (k j b : ℕ) (n : ℕ) → length xs ≡ n → j ≡ n + k → slice_set (xs ++ ys) j b ≡ xs ++ slice_set ys k b
set_behind xs ys k j b n e h = overlaid_behind xs ys (b ∷ []) n k j e h

module _ (c : ℕ → List ℕ) (n : ℕ) where
  -- the bytes of a piece of the function
  of_function : (bytes : List ℕ) (p : Piece) → p.function ≡ n → piece_bytes (changed c n bytes) p ≡ take (piece_len p) (drop p.from bytes)
  of_function bytes p e =
      let same : nat_eq p.function n ≡ true = grind (arith, nat_tests) in
      ap (λ t. take (piece_len p) (drop p.from (if t then bytes else c p.function))) same

  module _ (k x : ℕ) where
    -- a piece that has the byte
    this_piece : (bytes : List ℕ) (p : Piece) → p.function ≡ n → p.from ≤ k → piece_bytes (changed c n (slice_set bytes k x)) p ≡ slice_set (piece_bytes (changed c n bytes) p) (k - p.from) x
    this_piece bytes p e le =
        let split : k ≡ p.from + (k - p.from) = omega (arith, le) in
        of_function (slice_set bytes k x) p e ∙
        ap (λ i. take (piece_len p) (drop p.from (slice_set bytes i x))) split ∙
        ap (take (piece_len p)) (drop-set-add p.from bytes (k - p.from) x) ∙
        take_set (piece_len p) (drop p.from bytes) (k - p.from) x ∙
        sym (ap (λ bs. slice_set bs (k - p.from) x) (of_function bytes p e))

    -- one that doesn't
    other_piece : (bytes : List ℕ) (p : Piece) → Apart n k p → piece_bytes (changed c n (slice_set bytes k x)) p ≡ piece_bytes (changed c n bytes) p
    other_piece bytes p apart = by_test (nat_eq p.function n) refl apart
      where
        short : p.from ≤ k → p.to ≤ k → length (take (piece_len p) (drop p.from bytes)) ≤ k - p.from
        short le past = let size = length-take (piece_len p) (drop p.from bytes) in omega (arith, le, past, size)

        by_low : (t : Bool) → nat_lt k p.from ≡ t → p.function ≡ n → (k < p.from) ⊎ (p.to ≤ k) → piece_bytes (changed c n (slice_set bytes k x)) p ≡ piece_bytes (changed c n bytes) p
        by_low true lt e side =
            let below : k < p.from = grind (arith, nat_tests) in
            of_function (slice_set bytes k x) p e ∙ ap (take (piece_len p)) (drop-set-lt p.from bytes k x below) ∙ sym (of_function bytes p e)
        by_low false not e side =
            let le : p.from ≤ k = grind (arith, nat_tests) in
            let past : p.to ≤ k = elim side [ inl lt ↦ absurd (omega (arith, lt, le)) | inr h ↦ h ] in
            this_piece bytes p e le ∙
            ap (λ bs. slice_set bs (k - p.from) x) (of_function bytes p e) ∙
            set_past (take (piece_len p) (drop p.from bytes)) (k - p.from) x (short le past) ∙
            sym (of_function bytes p e)

        by_test : (t : Bool) → nat_eq p.function n ≡ t → Apart n k p → piece_bytes (changed c n (slice_set bytes k x)) p ≡ piece_bytes (changed c n bytes) p
        by_test false other h = ap (λ t. take (piece_len p) (drop p.from (if t then slice_set bytes k x else c p.function))) other ∙ sym (ap (λ t. take (piece_len p) (drop p.from (if t then bytes else c p.function))) other)
        by_test true same (inl other) = let e : p.function ≡ n = grind (arith, nat_tests) in absurd (other e)
        by_test true same (inr side) = let e : p.function ≡ n = grind (arith, nat_tests) in by_low (nat_lt k p.from) refl e side

    -- code whose pieces don't
    none_changes : (bytes : List ℕ) (end : ℕ) (starts : List ℕ) (ps : List Piece) → ((j : ℕ) (p : Piece) → slice_get ps j ≡ Some p → Apart n k p) → code_from (changed c n (slice_set bytes k x)) end starts ps ≡ code_from (changed c n bytes) end starts ps
    none_changes bytes end [] ps h = refl
    none_changes bytes end (s ∷ ss) [] h = refl
    none_changes bytes end (s ∷ ss) (p ∷ ps) h =
        ap (λ bs. filler (s - end) ++ (bs ++ code_from (changed c n (slice_set bytes k x)) (s + piece_len p) ss ps)) (other_piece bytes p (h 0 p refl)) ∙
        ap (λ xs. filler (s - end) ++ (piece_bytes (changed c n bytes) p ++ xs)) (none_changes bytes (s + piece_len p) ss ps (λ j q e. h (suc j) q e))

    -- code with the byte in one piece
    pub one_changes : (bytes : List ℕ) (words : ℕ → ℕ) (i end : ℕ) (ps : List Piece) (q : ℕ) (p : Piece) → slice_get ps q ≡ Some p → p.function ≡ n → p.from ≤ k → k < p.to →
        ((j : ℕ) (r : Piece) → slice_get ps j ≡ Some r → (j ≡ q → ⊥) → Apart n k r) →
        ((j : ℕ) (r : Piece) → slice_get ps j ≡ Some r → length (piece_bytes (changed c n bytes) r) ≡ piece_len r) →
        slice_set (code_from (changed c n bytes) end (starts_from words i end ps) ps) (slice_index (starts_from words i end ps) q - end + (k - p.from)) x ≡ code_from (changed c n (slice_set bytes k x)) end (starts_from words i end ps) ps
    one_changes bytes words i end [] q p e f a b others long = absurd (cc)
    one_changes bytes words i end (r ∷ rs) zero p e f a b others long =
        let same : r ≡ p = cc in
        let s = start_behind end (words i) in
        let ss = starts_from words (i + 1) (s + piece_len r) rs in
        let gap = filler (s - end) in
        let rest = code_from (changed c n bytes) (s + piece_len r) ss rs in
        let size : length (piece_bytes (changed c n bytes) r) ≡ piece_len r = long 0 r refl in
        let from_same : r.from ≡ p.from = ap (λ (y : Piece). y.from) same in
        let to_same : r.to ≡ p.to = ap (λ (y : Piece). y.to) same in
        let within : k - p.from < length (piece_bytes (changed c n bytes) r) = omega (arith, size, from_same, to_same, a, b) in
        let here : piece_bytes (changed c n (slice_set bytes k x)) r ≡ slice_set (piece_bytes (changed c n bytes) r) (k - p.from) x =
        this_piece bytes r (ap (λ (y : Piece). y.function) same ∙ f) (omega (arith, from_same, a)) ∙ ap (λ m. slice_set (piece_bytes (changed c n bytes) r) (k - m) x) from_same in
        set_behind gap (piece_bytes (changed c n bytes) r ++ rest) (k - p.from) (s - end + (k - p.from)) x (s - end) (length-replicate {A = ℕ} (s - end) 0xCC) refl ∙
        ap (λ xs. gap ++ xs) (set-append_left (piece_bytes (changed c n bytes) r) rest (k - p.from) x within) ∙
        ap (λ bs. gap ++ (bs ++ rest)) (sym here) ∙
        ap (λ xs. gap ++ (piece_bytes (changed c n (slice_set bytes k x)) r ++ xs)) (sym (none_changes bytes (s + piece_len r) ss rs (λ j y h. others (suc j) y h (λ z. absurd (omega (arith, z))))))
    one_changes bytes words i end (r ∷ rs) (suc q) p e f a b others long =
        let s = start_behind end (words i) in
        let ss = starts_from words (i + 1) (s + piece_len r) rs in
        let gap = filler (s - end) in
        let here = piece_bytes (changed c n bytes) r in
        let rest = code_from (changed c n bytes) (s + piece_len r) ss rs in
        let t = slice_index ss q in
        let size : length here ≡ piece_len r = long 0 r refl in
        let low : end ≤ s = omega arith in
        let above : s + piece_len r ≤ t = starts_above words (i + 1) (s + piece_len r) rs q (within rs q p e) in
        let split : t - end + (k - p.from) ≡ s - end + (piece_len r + (t - (s + piece_len r) + (k - p.from))) = omega (arith, low, above) in
        set_behind gap (here ++ rest) (piece_len r + (t - (s + piece_len r) + (k - p.from))) (t - end + (k - p.from)) x (s - end) (length-replicate {A = ℕ} (s - end) 0xCC) split ∙
        ap (λ xs. gap ++ xs) (set_behind here rest (t - (s + piece_len r) + (k - p.from)) (piece_len r + (t - (s + piece_len r) + (k - p.from))) x (piece_len r) size refl) ∙
        ap (λ xs. gap ++ (here ++ xs)) (one_changes bytes words (i + 1) (s + piece_len r) rs q p e f a b (λ j y h o. others (suc j) y h (λ z. o (omega (arith, z)))) (λ j y h. long (suc j) y h)) ∙
        ap (λ bs. gap ++ (bs ++ code_from (changed c n (slice_set bytes k x)) (s + piece_len r) ss rs)) (sym (other_piece bytes r (others 0 r refl (λ z. absurd (omega (arith, z))))))
      where
        behind : (y word : ℕ) → y ≤ start_behind y word
        behind y word = omega arith

        within : (ys : List Piece) (j : ℕ) (y : Piece) → slice_get ys j ≡ Some y → j < length ys
        within [] j y h = absurd (cc)
        within (z ∷ ys) zero y h = omega arith
        within (z ∷ ys) (suc j) y h = let w = within ys j y h in omega (arith, w)

        starts_above : (ws : ℕ → ℕ) (m y : ℕ) (ys : List Piece) (j : ℕ) → j < length ys → y ≤ slice_index (starts_from ws m y ys) j
        starts_above ws m y [] j lt = absurd (omega (arith, lt))
        starts_above ws m y (z ∷ ys) zero lt = behind y (ws m)
        starts_above ws m y (z ∷ ys) (suc j) lt =
            let lower = behind y (ws m) in
            let w = starts_above ws (m + 1) (start_behind y (ws m) + piece_len z) ys j (omega (arith, lt)) in
            omega (arith, lower, w)

-- ways that lie inside so many bytes
abbrev pub AllWithin : ℕ → List Way → Type 0
AllWithin size [] = Unit {0}
AllWithin size (w ∷ ws) = (w.at + 4 ≤ size) × AllWithin size ws

-- displacements that are put at addresses are displacements of the function
module _ (runs : List Run) (start front : ℕ) (code : List ℕ → List ℕ) (size : ℕ) (behind : ℕ → ℕ)
    (one : (bytes : List ℕ) (k x : ℕ) → length bytes ≡ size → k < size → slice_set (code bytes) (address_at runs (front + k) - start) x ≡ code (slice_set bytes k x))
    (ends : (at : ℕ) → at + 4 ≤ size → address_at runs (front + at + 3) + 1 ≡ behind at) where
  -- some bytes
  put_bytes : (bytes xs : List ℕ) (at : ℕ) → length bytes ≡ size → at + length xs ≤ size → put_at runs start (code bytes) (front + at) xs ≡ code (overlaid bytes at xs)
  put_bytes bytes [] at long le = refl
  put_bytes bytes (x ∷ xs) at long le =
      let next : front + at + 1 ≡ front + (at + 1) = omega arith in
      ap (λ ys. put_at runs start ys (front + at + 1) xs) (one bytes at x long (omega (arith, le))) ∙
      ap (λ a. put_at runs start (code (slice_set bytes at x)) a xs) next ∙
      put_bytes (slice_set bytes at x) xs (at + 1) (length-set bytes at x ∙ long) (omega (arith, le))

  pub put_all : (bytes : List ℕ) (ws : List Way) → length bytes ≡ size → AllWithin size ws → put_ways runs start front ws (code bytes) ≡ code (led behind ws bytes)
  put_all bytes [] long h = refl
  put_all bytes (w ∷ ws) long h =
      ap (λ a. put_ways runs start front ws (put_at runs start (code bytes) (front + w.at) (way w a))) (ends w.at h.0) ∙
      ap (put_ways runs start front ws) (put_bytes bytes (way w (behind w.at)) w.at long h.0) ∙
      put_all (overlaid bytes w.at (way w (behind w.at))) ws (overlaid_long bytes w.at (way w (behind w.at)) ∙ long) h.1
    where
      way : Way → ℕ → List ℕ
      way v a = displacement_bytes v.to a
