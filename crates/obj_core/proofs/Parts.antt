-- The bytes of a piece by its number.
use Rattle.std.proofs.Common.{◌≡◌, ℕ, zero, suc, ◌-◌, ◌<◌, ◌≤◌, List, [], ◌∷◌, length, take, drop, get_or, Some, None, refl, ◌∙◌, ap, arith}
use Rattle.std.specs.Prelude.{Option, slice_get}
use Rattle.obj_core.specs.declared.object.Func.{Func}
use Rattle.obj_core.specs.declared.piece.Piece.{Piece}
use Rattle.obj_core.specs.Pieces.{piece_len}
use Rattle.obj_core.specs.Placement.{or_no_piece, piece_in}
use Rattle.obj_core.specs.Layout.{bytes_in, piece_bytes}
use Rattle.obj_core.proofs.Pieces.{get_some, get_none}

-- the piece of a number
pub piece_some : (ps : List Piece) (k : ℕ) (p : Piece) → slice_get ps k ≡ Some p → piece_in ps k ≡ p
unfolding piece_in
piece_some ps k p e = ap or_no_piece e

piece_none : (ps : List Piece) (k : ℕ) → length ps ≤ k → piece_len (piece_in ps k) ≡ 0
unfolding piece_in
piece_none ps k h = ap (λ x. piece_len (or_no_piece x)) (get_none ps k h)

-- bytes that are none
nothing_left : (n m : ℕ) → take {A = ℕ} n (drop m []) ≡ []
nothing_left zero m = refl
nothing_left (suc n) zero = refl
nothing_left (suc n) (suc m) = refl

-- those of a function
bytes_some : (fs : List Func) (n : ℕ) (f : Func) → n < length fs → f ≡ get_or fs n f → bytes_in fs n ≡ f.bytes
bytes_some [] n f h e = absurd (omega arith)
bytes_some (g ∷ fs) zero f h e = ap (λ (x : Func). x.bytes) (get_or_same g f e)
  where
    get_or_same : (x y : Func) → y ≡ x → x ≡ y
    get_or_same x y h = cc
bytes_some (g ∷ fs) (suc n) f h e = bytes_some fs n f (omega arith) e

bytes_none : (fs : List Func) (n : ℕ) → length fs ≤ n → bytes_in fs n ≡ []
bytes_none [] n h = refl
bytes_none (f ∷ fs) zero h = absurd (omega arith)
bytes_none (f ∷ fs) (suc n) h = bytes_none fs n (omega arith)

-- a piece of a function
pub part_there : (fs : List Func) (ps : List Piece) (k : ℕ) (p : Piece) (f : Func) → k < length ps → p ≡ get_or ps k p → p.function < length fs → f ≡ get_or fs p.function f → piece_bytes (bytes_in fs) (piece_in ps k) ≡ take (p.to - p.from) (drop p.from f.bytes)
part_there fs ps k p f h e h2 e2 =
    ap (piece_bytes (bytes_in fs)) (piece_some ps k p (get_some ps k p h e)) ∙
    ap (λ bs. take (p.to - p.from) (drop p.from bs)) (bytes_some fs p.function f h2 e2)

-- of no function
pub part_of_none : (fs : List Func) (ps : List Piece) (k : ℕ) (p : Piece) → k < length ps → p ≡ get_or ps k p → length fs ≤ p.function → piece_bytes (bytes_in fs) (piece_in ps k) ≡ []
part_of_none fs ps k p h e h2 =
    ap (piece_bytes (bytes_in fs)) (piece_some ps k p (get_some ps k p h e)) ∙
    ap (λ bs. take (p.to - p.from) (drop p.from bs)) (bytes_none fs p.function h2) ∙
    nothing_left (p.to - p.from) p.from

-- and no piece
pub no_part : (fs : List Func) (ps : List Piece) (k : ℕ) → length ps ≤ k → piece_bytes (bytes_in fs) (piece_in ps k) ≡ []
no_part fs ps k h = ap (λ n. take n (drop (piece_in ps k).from (bytes_in fs (piece_in ps k).function))) (piece_none ps k h)
