-- How many bytes slots and code have.
use Rattle.std.proofs.Common.{◌≡◌, ℕ, ◌+◌, ◌-◌, ◌*◌, ◌≤◌, List, [], ◌∷◌, ◌++◌, length, drop, refl, ◌∙◌, ap, arith, length-append}
use Rattle.std.specs.Prelude.{Option, Some, None, slice_get, replicate}
use Rattle.std.specs.List.{sum_by}
use Rattle.std.proofs.lemmas.List.{length-replicate, length-take}
use Rattle.std.proofs.lemmas.List.FromFn.{length-map-range_with_len}
use Rattle.std.proofs.lemmas.List.Sums.{sum-map, sum_by-cons}
use Rattle.rd_draw.specs.Draw.{keystream_word}
use Rattle.rd_draw.proofs.Permuted.{shuffled_long}
use Rattle.obj_core.specs.declared.object.Object.{Object}
use Rattle.obj_core.specs.declared.object.Slot.{Slot}
use Rattle.obj_core.specs.declared.object.CodeAt.{CodeAt}
use Rattle.obj_core.specs.Slots.{positions, slot_purpose}
use Rattle.obj_core.specs.declared.object.Func.{Func}
use Rattle.obj_core.specs.declared.piece.Piece.{Piece}
use Rattle.obj_core.specs.Pieces.{pieces, piece_len}
use Rattle.obj_core.specs.WellFormed.{IsWellFormed}
use Rattle.obj_core.specs.Placement.{row, gap_purpose, inverse, index_in, displacement_bytes, slot_in, up16, start_behind, starts_from, starts, code_base, address}
use Rattle.obj_core.proofs.Overlaid.{overlaid_long}
use Rattle.obj_core.proofs.Totals.{few_here, row_here, row_long}
use Rattle.obj_core.specs.Layout.{Way, led, filled_in, piece_bytes, code_from, code_bytes, trampoline, trampolines, trampoline_bytes}

-- each slot has sixteen bytes
pub slot_long : (code : CodeAt → ℕ) (at : ℕ) (s : Option Slot) → length (trampoline code at s) ≡ 16
slot_long code at None = refl
slot_long code at (Some (Slot.Entry target)) = refl
slot_long code at (Some (Slot.Jump target)) = refl
slot_long code at (Some (Slot.Call target back)) = refl
slot_long code at (Some (Slot.Indirect back)) = refl
slot_long code at (Some (Slot.System back)) = refl

pub slots_long : (code : CodeAt → ℕ) (at : List ℕ) (slots : List Slot) (ks : List ℕ) → length (trampolines code at slots ks) ≡ 16 * length ks
slots_long code at slots [] = refl
slots_long code at slots (k ∷ ks) =
    length-append (trampoline code (slot_in at k) (slice_get slots k)) (trampolines code at slots ks) ∙
    omega (arith, slot_long code (slot_in at k) (slice_get slots k), slots_long code at slots ks)

pub length-trampoline_bytes : (o : Object) (seed : ℕ) → length (trampoline_bytes o seed) ≡ 16 * length o.slots
unfolding trampoline_bytes positions
length-trampoline_bytes o seed =
    slots_long (address o seed) (positions o) o.slots (inverse (positions o)) ∙
    ap (λ n. 16 * n) (length-map-range_with_len (index_in (positions o)) 0 (length (positions o)) ∙ shuffled_long (keystream_word o.slot_seed slot_purpose 0) (length o.slots))

-- displacements change no length
pub led_long : (behind : ℕ → ℕ) (ws : List Way) (bytes : List ℕ) → length (led behind ws bytes) ≡ length bytes
led_long behind [] bytes = refl
led_long behind (w ∷ ws) bytes = led_long behind ws _ ∙ overlaid_long bytes w.at (displacement_bytes w.to (behind w.at))

-- a piece has no more bytes than it takes
pub part_long : (c : ℕ → List ℕ) (p : Piece) → length (piece_bytes c p) ≤ piece_len p
part_long c p = let size = length-take (piece_len p) (drop p.from (c p.function)) in omega (arith, size)

-- a gap has at most 15 + 31 * 16 bytes
gap_small : (end word : ℕ) → start_behind end word - end ≤ 511
gap_small end word = omega arith

gap_ahead : (end : ℕ) → up16 end - end ≤ 15
gap_ahead end = omega arith

code_long : (c : ℕ → List ℕ) (words : ℕ → ℕ) (i end : ℕ) (ps : List Piece) → length (code_from c end (starts_from words i end ps) ps) ≤ sum_by piece_len ps + 511 * length ps + 15
code_long c words i end [] = omega (arith, length-replicate {A = ℕ} (up16 end - end) 204, gap_ahead end)
code_long c words i end (p ∷ ps) =
    let start = start_behind end (words i) in
    let rest = code_from c (start + piece_len p) (starts_from words (i + 1) (start + piece_len p) ps) ps in
    let front = length-append (replicate (start - end) 204) (piece_bytes c p ++ rest) in
    let behind = length-append (piece_bytes c p) rest in
    omega (arith, front, behind, length-replicate {A = ℕ} (start - end) 204, part_long c p, gap_small end (words i), code_long c words (i + 1) (start + piece_len p) ps, sum_by-cons piece_len p ps)

pub code_small : (o : Object) (w : IsWellFormed o) (seed : ℕ) → length (code_bytes o seed) ≤ 134086671
unfolding code_bytes starts
code_small o w seed =
    let bound = code_long (filled_in (address o seed) (positions o) o.functions) (keystream_word seed gap_purpose 0) 1 (code_base seed) (row o seed) in
    let total = sum-map (λ (f : Func). length f.bytes) o.functions in
    let few : length (pieces o) ≤ 131072 = few_here o w in
    omega (arith, bound, row_here o w seed, row_long o seed, few, w.few.code, total)
