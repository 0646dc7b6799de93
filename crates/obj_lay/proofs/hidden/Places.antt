-- The addresses of an object's places in a layout, and what stands there.
use Rattle.std.proofs.Common.{◌≡◌, ℕ, ◌+◌, ◌-◌, ◌<◌, ◌≤◌, inl, inr, List, ◌++◌, length, take, drop, Some, sym, ◌∙◌, ap, arith}
use Rattle.std.specs.Prelude.{slice_get, slice_index, map, sum}
use Rattle.std.proofs.lemmas.Bool.{cases_eq}
use Rattle.std.proofs.lemmas.Option.{slice_get_within}
use Rattle.std.proofs.lemmas.List.{length-take, length-drop}
use Rattle.std.proofs.lemmas.List.Sums.{sum-map}
use Rattle.rd_draw.specs.Draw.{keystream_word, shuffled}
use Rattle.rd_draw.proofs.Permuted.{shuffled_long}
use Rattle.obj_core.specs.declared.object.Object.{Object}
use Rattle.obj_core.specs.declared.object.Func.{Func}
use Rattle.obj_core.specs.declared.object.Place.{Place}
use Rattle.obj_core.specs.declared.piece.Piece.{Piece}
use Rattle.obj_core.specs.Pieces.{pieces, piece_len}
use Rattle.obj_core.specs.Slots.{slot_start, slot_purpose, positions}
use Rattle.obj_core.specs.WellFormed.{AreFew, IsWellFormed}
use Rattle.obj_core.specs.Placement.{gap_purpose, order, inverse, index_in, code_base, row, starts, address, address_from}
use Rattle.obj_core.specs.Layout.{branch_ways, link_ways, behind, filled, filled_by, filled_in, piece_bytes, code_bytes}
use Rattle.obj_core.proofs.Pieces.{IsEdge, Apart, apart_other, inside}
use Rattle.obj_core.proofs.Cuts.{all_rising}
use Rattle.obj_core.proofs.Orders.{place_again, index_below, inverse_index, inverse_get}
use Rattle.obj_core.proofs.Totals.{few_here, row_here, row_long, order_as_many}
use Rattle.obj_lay.proofs.Laid.{row_has, listed, placed, has}
use Rattle.obj_lay.proofs.Lengths.{led_long}
use Rattle.obj_lay.proofs.hidden.Standing.{piece_stands, piece_below}

-- the piece that holds a byte of a function, where it starts, and what stands there
pub record InPiece (o : Object) (seed n : ℕ) (f : Func) (off : ℕ) : Type 0 where
  pub piece : Piece
  pub from : piece.from ≤ off
  pub to : off < piece.to
  pub edge : IsEdge f.cuts (length f.bytes) piece.to
  pub last : piece.to ≤ length f.bytes
  pub start : ℕ
  pub low : code_base seed ≤ start
  pub high : start + piece_len piece ≤ 1477000000
  pub address_is : (k : ℕ) → piece.from ≤ k → k < piece.to → address o seed (record { function = n; offset = k }) ≡ start + (k - piece.from)
  pub more : List ℕ
  pub bytes : drop (start - code_base seed) (code_bytes o seed) ≡ take (piece_len piece) (drop piece.from (filled (address o seed) (positions o) n f)) ++ more

module _ (o : Object) (w : IsWellFormed o) (seed n : ℕ) (f : Func) (there : slice_get o.functions n ≡ Some f) where
  -- filled functions are as long
  filled_long : (m : ℕ) (g : Func) → slice_get o.functions m ≡ Some g → length (filled_in (address o seed) (positions o) o.functions m) ≡ length g.bytes
  filled_long m g e = ap (λ x. length (filled_by (address o seed) (positions o) m x)) e ∙ led_long (behind (address o seed) m) (branch_ways (address o seed) m g g.cuts ++ link_ways (positions o) g.links) g.bytes

  -- each piece has its bytes
  part_long : (j : ℕ) (r : Piece) → slice_get (row o seed) j ≡ Some r → length (piece_bytes (filled_in (address o seed) (positions o) o.functions) r) ≡ piece_len r
  part_long j r e =
      let c = filled_in (address o seed) (positions o) o.functions in
      let p = placed o w seed n f there j r e in
      let x = inside 0 o.functions (all_rising o w) p.number r p.is in
      let function : r.function ≡ x.number = let y : r.function ≡ 0 + x.number = x.function in omega (arith, y) in
      let size : length (filled_in (address o seed) (positions o) o.functions r.function) ≡ length x.func.bytes = ap (λ m. length (filled_in (address o seed) (positions o) o.functions m)) function ∙ filled_long x.number x.func x.found in
      let first = length-take (piece_len r) (drop r.from (filled_in (address o seed) (positions o) o.functions r.function)) in
      let rest = length-drop r.from (filled_in (address o seed) (positions o) o.functions r.function) in
      let to : r.to ≤ length x.func.bytes = x.to in
      omega (arith, size, first, rest, to)

  -- bytes of one piece have one holder
  one_holder : (off k : ℕ) (lt : off < length f.bytes) (lt2 : k < length f.bytes) → (has o w seed n f there off lt).piece.from ≤ k → k < (has o w seed n f there off lt).piece.to → (has o w seed n f there k lt2).number ≡ (has o w seed n f there off lt).number
  one_holder off k lt lt2 a b =
      let h = has o w seed n f there off lt in
      let g = has o w seed n f there k lt2 in
      elim (cases_eq g.number h.number) [
        | inl same ↦ same
        | inr other ↦ absurd (not_apart h.piece h.function a b (apart_other (0 + n) k g.number (pieces o) g.others h.number h.piece h.there (λ e. other (sym e))))
      ]
    where
      not_apart : (p : Piece) → p.function ≡ 0 + n → p.from ≤ k → k < p.to → Apart (0 + n) k p → ⊥
      not_apart p e c d (inl no_function) = no_function e
      not_apart p e c d (inr (inl before)) = omega (arith, c, before)
      not_apart p e c d (inr (inr past)) = omega (arith, d, past)

  -- the address of a byte by its holder
  held_at : (off : ℕ) (lt : off < length f.bytes) → address o seed (record { function = n; offset = off }) ≡ slice_index (starts o seed) (index_in (order o seed) (has o w seed n f there off lt).number) + (off - (has o w seed n f there off lt).piece.from)
  unfolding address
  held_at off lt =
      let h = has o w seed n f there off lt in
      let number : 0 + n ≡ n = omega arith in
      let first : 0 + h.number ≡ h.number = omega arith in
      let below = slice_get_within (pieces o) h.number h.piece h.there in
      let many = order_as_many o seed in
      ap (λ m. address_from (inverse (order o seed)) (starts o seed) 0 (pieces o) (record { function = m; offset = off })) (sym number) ∙
      h.address (inverse (order o seed)) (starts o seed) 0 ∙
      ap (λ j. slice_index (starts o seed) (slice_index (inverse (order o seed)) j) + (off - h.piece.from)) first ∙
      ap (λ q. slice_index (starts o seed) q + (off - h.piece.from)) (inverse_index (order o seed) h.number (omega (arith, below, many)))

  -- a piece by its number
  same_piece : (i j : ℕ) (p q : Piece) → slice_get (pieces o) i ≡ Some p → slice_get (pieces o) j ≡ Some q → i ≡ j → p ≡ q
  same_piece i j p q e g same = let both : slice_get (pieces o) i ≡ Some q = ap (slice_get (pieces o)) same ∙ g in cc

  pub in_piece : (off : ℕ) → off < length f.bytes → InPiece o seed n f off
  unfolding code_bytes starts
  in_piece off lt =
      let c = filled_in (address o seed) (positions o) o.functions in
      let words = keystream_word seed gap_purpose 0 in
      let h = has o w seed n f there off lt in
      let number : 0 + n ≡ n = omega arith in
      let l = listed o w seed n f there h.number (slice_get_within (pieces o) h.number h.piece h.there) in
      let q = index_in (order o seed) h.number in
      let got = row_has o w seed n f there h.number h.piece h.there l in
      let x = piece_stands c words 1 (code_base seed) (row o seed) q h.piece got part_long in
      let reach = piece_below words 1 (code_base seed) (row o seed) q h.piece got in
      let total = sum-map (λ (f : Func). length f.bytes) o.functions in
      let code : sum (map (λ (f : Func). length f.bytes) o.functions) ≤ 67108864 = w.few.code in
      let few : length (pieces o) ≤ 131072 = few_here o w in
      let base : code_base seed ≤ 1342173184 = omega arith in
      record {
        piece = h.piece;
        from = h.from;
        to = h.to;
        edge = h.edge;
        last = h.last;
        start = slice_index (starts o seed) q;
        low = x.from;
        high = omega (arith, reach, row_here o w seed, row_long o seed, few, code, total, base);
        address_is = λ k a b.
            let inside_there : k < length f.bytes = let last = h.last in omega (arith, b, last) in
            let g = has o w seed n f there k inside_there in
            let one = one_holder off k lt inside_there a b in
            let same : g.piece ≡ h.piece = same_piece g.number h.number g.piece h.piece g.there h.there one in
            held_at k inside_there ∙
            ap (λ j. slice_index (starts o seed) (index_in (order o seed) j) + (k - g.piece.from)) one ∙
            ap (λ (p : Piece). slice_index (starts o seed) q + (k - p.from)) same;
        more = x.more;
        bytes =
            x.bytes ∙
            ap (λ m. take (piece_len h.piece) (drop h.piece.from (c m)) ++ x.more) (h.function ∙ number) ∙
            ap (λ y. take (piece_len h.piece) (drop h.piece.from (filled_by (address o seed) (positions o) n y)) ++ x.more) there;
      }

module _ (o : Object) (seed : ℕ) where
  -- the address of a place
  abbrev pub place : Place → ℕ
  place (Place.Code n off) = address o seed (record { function = n; offset = off })
  place (Place.Slot k at) = slot_start o k + at

  -- slots stand below all code
  pub slot_low : (k : ℕ) → AreFew o → k < length o.slots → slot_start o k + 16 ≤ 285212672
  unfolding positions
  slot_low k few lt =
      let below = index_below (keystream_word o.slot_seed slot_purpose 0) (length o.slots) k lt in
      let slots : length o.slots ≤ 1048576 = few.slots in
      omega (arith, below, slots)

  pub slot_place : (k : ℕ) → k < length o.slots → slice_get (inverse (positions o)) (slice_index (positions o) k) ≡ Some k
  unfolding positions
  slot_place k lt =
      let below = index_below (keystream_word o.slot_seed slot_purpose 0) (length o.slots) k lt in
      let long = shuffled_long (keystream_word o.slot_seed slot_purpose 0) (length o.slots) in
      inverse_get (shuffled (keystream_word o.slot_seed slot_purpose 0) (length o.slots)) (slice_index (shuffled (keystream_word o.slot_seed slot_purpose 0) (length o.slots)) k) (omega (arith, below, long)) ∙
      ap Some (place_again (keystream_word o.slot_seed slot_purpose 0) (length o.slots) k lt)
