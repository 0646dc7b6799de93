-- Where pieces stand in the bytes of all code, and how far these reach.
use Rattle.std.proofs.Common.{◌≡◌, ℕ, zero, suc, ◌+◌, ◌-◌, ◌*◌, ◌≤◌, List, [], ◌∷◌, ◌++◌, length, drop, Some, refl, ◌∙◌, ap, arith}
use Rattle.std.specs.Prelude.{slice_get, slice_index}
use Rattle.std.specs.List.{sum_by}
use Rattle.std.proofs.lemmas.List.{drop_at, length-replicate}
use Rattle.std.proofs.lemmas.List.Sums.{sum_by-cons}
use Rattle.obj_core.specs.declared.piece.Piece.{Piece}
use Rattle.obj_core.specs.Pieces.{piece_len}
use Rattle.obj_core.specs.Placement.{filler, start_behind, starts_from}
use Rattle.obj_core.specs.Layout.{piece_bytes, code_from}
use Rattle.obj_lay.proofs.hidden.Instrs.{drop_behind}

-- a piece in the code of pieces
pub record StandsIn (c : ℕ → List ℕ) (end : ℕ) (starts : List ℕ) (ps : List Piece) (q : ℕ) (p : Piece) : Type 0 where
  pub from : end ≤ slice_index starts q
  pub more : List ℕ
  pub bytes : drop (slice_index starts q - end) (code_from c end starts ps) ≡ piece_bytes c p ++ more

-- a piece begins at the end before it or later
behind_end : (end word : ℕ) → end ≤ start_behind end word
behind_end end word = omega arith

-- past the first piece
further : (c : ℕ → List ℕ) (end start : ℕ) → end ≤ start → (r : Piece) (others : List ℕ) (rs : List Piece) (s : ℕ) → length (piece_bytes c r) ≡ piece_len r → start + piece_len r ≤ s →
    drop (s - end) (code_from c end (start ∷ others) (r ∷ rs)) ≡ drop (s - (start + piece_len r)) (code_from c (start + piece_len r) others rs)
further c end start le r others rs s long below =
    let rest = code_from c (start + piece_len r) others rs in
    let less : s - end - (start - end) - piece_len r ≡ s - (start + piece_len r) = omega (arith, le, below) in
    drop_behind (filler (start - end)) (piece_bytes c r ++ rest) (start - end) (s - end) (length-replicate (start - end) 0xCC) (omega (arith, le, below)) ∙
    drop_behind (piece_bytes c r) rest (piece_len r) (s - end - (start - end)) long (omega (arith, le, below)) ∙
    ap (λ k. drop k rest) less

-- each piece does
pub piece_stands : (c : ℕ → List ℕ) (words : ℕ → ℕ) (i end : ℕ) (ps : List Piece) (q : ℕ) (p : Piece) → slice_get ps q ≡ Some p → ((j : ℕ) (r : Piece) → slice_get ps j ≡ Some r → length (piece_bytes c r) ≡ piece_len r) → StandsIn c end (starts_from words i end ps) ps q p
piece_stands c words i end [] q p e long = absurd (cc)
piece_stands c words i end (r ∷ rs) zero p e long =
    let same : r ≡ p = cc in
    let start = start_behind end (words i) in
    let rest = code_from c (start + piece_len r) (starts_from words (i + 1) (start + piece_len r) rs) rs in
    record {
      from = behind_end end (words i);
      more = rest;
      bytes =
          drop_at (filler (start_behind end (words i) - end)) (piece_bytes c r ++ rest) (start_behind end (words i) - end) (length-replicate (start_behind end (words i) - end) 0xCC) ∙
          ap (λ (x : Piece). piece_bytes c x ++ rest) same;
    }
piece_stands c words i end (r ∷ rs) (suc q) p e long =
    let others = starts_from words (i + 1) (start_behind end (words i) + piece_len r) rs in
    let x = piece_stands c words (i + 1) (start_behind end (words i) + piece_len r) rs q p e (λ j y h. long (suc j) y h) in
    let from : start_behind end (words i) + piece_len r ≤ slice_index others q = x.from in
    let low = behind_end end (words i) in
    record {
      from = omega (arith, from, low);
      more = x.more;
      bytes = further c end (start_behind end (words i)) (behind_end end (words i)) r others rs (slice_index others q) (long 0 r refl) x.from ∙ x.bytes;
    }

-- no piece starts before the end before all
pub starts_low : (words : ℕ → ℕ) (i end : ℕ) (ps : List Piece) (q : ℕ) (p : Piece) → slice_get ps q ≡ Some p → end ≤ slice_index (starts_from words i end ps) q
starts_low words i end [] q p e = absurd (cc)
starts_low words i end (r ∷ rs) zero p e = behind_end end (words i)
starts_low words i end (r ∷ rs) (suc q) p e =
    let x = starts_low words (i + 1) (start_behind end (words i) + piece_len r) rs q p e in
    let low = behind_end end (words i) in
    omega (arith, x, low)

-- at most 511 bytes are lost before each piece
pub piece_below : (words : ℕ → ℕ) (i end : ℕ) (ps : List Piece) (q : ℕ) (p : Piece) → slice_get ps q ≡ Some p → slice_index (starts_from words i end ps) q + piece_len p ≤ end + sum_by piece_len ps + 511 * length ps
piece_below words i end [] q p e = absurd (cc)
piece_below words i end (r ∷ rs) zero p e =
    let same : r ≡ p = cc in
    let size_same : piece_len r ≡ piece_len p = ap piece_len same in
    let whole = sum_by-cons piece_len r rs in
    let above : start_behind end (words i) ≤ end + 511 = omega arith in
    omega (arith, size_same, whole, above)
piece_below words i end (r ∷ rs) (suc q) p e =
    let x = piece_below words (i + 1) (start_behind end (words i) + piece_len r) rs q p e in
    let whole = sum_by-cons piece_len r rs in
    let above : start_behind end (words i) ≤ end + 511 = omega arith in
    omega (arith, x, whole, above)
