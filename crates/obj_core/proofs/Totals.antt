-- How many pieces and bytes an object has, and its order.
use Rattle.std.proofs.Common.{◌≡◌, ℕ, zero, suc, ◌+◌, ◌-◌, ◌≤◌, List, [], ◌∷◌, ◌++◌, length, map, refl, sym, ◌∙◌, ap, arith, length-append}
use Rattle.std.specs.Prelude.{sum, slice_get, slice_index}
use Rattle.std.specs.List.{sum_by, range_with_len}
use Rattle.std.proofs.Math.Logic.{∥∥₁_elim}
use Rattle.std.proofs.Math.Bridge.{le_prop}
use Rattle.std.proofs.lemmas.List.{length-map}
use Rattle.std.proofs.lemmas.List.FromFn.{fill_by_all}
use Rattle.std.proofs.lemmas.List.Sums.{sum-map, sum_by-cons, sum_by-append}
use Rattle.std.proofs.lemmas.List.Sorted.{sum_by-IsPermutation}
use Rattle.rd_draw.specs.Draw.{keystream_word}
use Rattle.rd_draw.proofs.Permuted.{shuffled_permutes, shuffled_long}
use Rattle.obj_core.specs.declared.object.Object.{Object}
use Rattle.obj_core.specs.declared.object.Func.{Func}
use Rattle.obj_core.specs.declared.piece.Piece.{Piece}
use Rattle.obj_core.specs.Pieces.{pieces_between, pieces_from, pieces, piece_len}
use Rattle.obj_core.specs.WellFormed.{IsWellFormed}
use Rattle.obj_core.specs.Placement.{or_no_piece, piece_in, pieces_in, order, order_purpose, row}
use Rattle.obj_core.proofs.Fronts.{code_len}
use Rattle.obj_core.proofs.Pieces.{Rising, AllRising, rising_past}
use Rattle.obj_core.proofs.Cuts.{all_rising}

-- the pieces of a function have its bytes
between_sum : (n from : ℕ) (cs : List ℕ) (end : ℕ) → Rising from cs end → sum_by piece_len (pieces_between n from cs end) ≡ end - from
between_sum n from [] end h = let x = sum_by-cons piece_len (record { function = n; from = from; to = end }) [] in omega (arith, x)
between_sum n from (c ∷ cs) end h =
    let x = sum_by-cons piece_len (record { function = n; from = from; to = c }) (pieces_between n c cs end) in
    let past = rising_past c cs end h.1 in
    omega (arith, x, between_sum n c cs end h.1, h.0, past)

-- and all pieces have all bytes
pub pieces_sum : (n : ℕ) (fs : List Func) → AllRising fs → sum_by piece_len (pieces_from n fs) ≡ code_len fs
pieces_sum n [] h = refl
pieces_sum n (f ∷ fs) h =
    let x = sum_by-append piece_len (pieces_between n 0 f.cuts (length f.bytes)) (pieces_from (n + 1) fs) in
    let y = sum_by-cons (λ (g : Func). length g.bytes) f fs in
    omega (arith, x, y, between_sum n 0 f.cuts (length f.bytes) h.0, pieces_sum (n + 1) fs h.1)

-- a function has a piece more than cuts
between_long : (n from : ℕ) (cs : List ℕ) (end : ℕ) → length (pieces_between n from cs end) ≡ suc (length cs)
between_long n from [] end = refl
between_long n from (c ∷ cs) end = ap suc (between_long n c cs end)

-- so there are as many pieces as functions and cuts
pub pieces_long : (n : ℕ) (fs : List Func) → length (pieces_from n fs) ≡ length fs + sum_by (λ (f : Func). length f.cuts) fs
pieces_long n [] = refl
pieces_long n (f ∷ fs) =
    let x = length-append (pieces_between n 0 f.cuts (length f.bytes)) (pieces_from (n + 1) fs) in
    let y = sum_by-cons (λ (g : Func). length g.cuts) f fs in
    omega (arith, x, y, between_long n 0 f.cuts (length f.bytes), pieces_long (n + 1) fs)

-- the pieces by their numbers
all_lens : (ps : List Piece) → map piece_len ps ≡ map (λ k. piece_len (piece_in ps k)) (range_with_len 0 (length ps))
unfolding piece_in
all_lens ps = fill_by_all (λ k. piece_len (piece_in ps k)) (map piece_len ps) (length ps) 0 (length-map ps piece_len) (λ k h. len_at k ps)
  where
    len_at : (k : ℕ) (qs : List Piece) → slice_index (map piece_len qs) k ≡ piece_len (or_no_piece (slice_get qs k))
    len_at k [] = refl
    len_at zero (q ∷ qs) = refl
    len_at (suc k) (q ∷ qs) = len_at k qs

placed_sum : (ps : List Piece) (ks : List ℕ) → sum_by piece_len (pieces_in ps ks) ≡ sum_by (λ k. piece_len (piece_in ps k)) ks
placed_sum ps [] = refl
placed_sum ps (k ∷ ks) =
    sum_by-cons piece_len (piece_in ps k) (pieces_in ps ks) ∙ ap (λ n. piece_len (piece_in ps k) + n) (placed_sum ps ks) ∙ sym (sum_by-cons (λ j. piece_len (piece_in ps j)) k ks)

-- the pieces in their order have as many bytes as the pieces
order_sum : (o : Object) (seed : ℕ) → sum_by piece_len (row o seed) ≡ sum_by piece_len (pieces o)
unfolding order
order_sum o seed =
    let ps = pieces o in
    let lens = λ (k : ℕ). piece_len (piece_in ps k) in
    let n = length ps in
    placed_sum ps (order o seed) ∙
    sum_by-IsPermutation lens (range_with_len 0 n) (order o seed) (shuffled_permutes (keystream_word seed order_purpose 0) n) ∙
    sym (sum-map lens (range_with_len 0 n)) ∙
    ap sum (sym (all_lens ps)) ∙
    sum-map piece_len ps

-- each piece has one place in the order
pub order_as_many : (o : Object) (seed : ℕ) → length (order o seed) ≡ length (pieces o)
unfolding order
order_as_many o seed = shuffled_long (keystream_word seed order_purpose 0) (length (pieces o))

-- and so has the row of pieces
pub row_long : (o : Object) (seed : ℕ) → length (row o seed) ≡ length (pieces o)
row_long o seed = length-map (order o seed) (piece_in (pieces o)) ∙ order_as_many o seed

module _ (o : Object) (w : IsWellFormed o) where
  pub few_here : length (pieces o) ≤ 131072
  few_here = let few : length o.functions + sum (map (λ (f : Func). length f.cuts) o.functions) ≤ 131072 = w.few.pieces in let total = sum-map (λ (f : Func). length f.cuts) o.functions in omega (arith, few, total, pieces_long 0 o.functions)

  -- all pieces have all bytes, also in their order
  pub bytes_here : sum_by piece_len (pieces o) ≡ code_len o.functions
  bytes_here = pieces_sum 0 o.functions (all_rising o w)

  pub row_here : (seed : ℕ) → sum_by piece_len (row o seed) ≡ code_len o.functions
  row_here seed = order_sum o seed ∙ bytes_here

  little_here : code_len o.functions ≤ 67108864
  little_here = let total = sum-map (λ (f : Func). length f.bytes) o.functions in omega (arith, w.few.code, total)

module _ (o : Object) (known : ∥ IsWellFormed o ∥₁) where
  pub few_pieces : length (pieces o) ≤ 131072
  few_pieces = ∥∥₁_elim known le_prop (λ w. few_here o w)

  pub few_places : (seed : ℕ) → length (order o seed) ≤ 131072
  few_places seed = omega (arith, order_as_many o seed, few_pieces)

  pub little_pieces : sum_by piece_len (pieces o) ≤ 67108864
  little_pieces = ∥∥₁_elim known le_prop (λ w. omega (arith, bytes_here o w, little_here o w))

  pub little_row : (seed : ℕ) → sum_by piece_len (row o seed) ≤ 67108864
  little_row seed = omega (arith, order_sum o seed, little_pieces)
