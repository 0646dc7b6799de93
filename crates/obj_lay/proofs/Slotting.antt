-- Slots while they are written: those of the first numbers, and breakpoints in the place of the others.
use Rattle.std.proofs.Common.{◌≡◌, ℕ, zero, suc, ◌+◌, ◌*◌, ◌<◌, ◌≤◌, List, [], ◌∷◌, ◌++◌, length, Option, Some, None, refl, sym, subst, get_or, ◌∙◌, ap, arith}
use Rattle.std.specs.Prelude.{slice_get, slice_index}
use Rattle.std.proofs.lemmas.List.{replicate-append-replicate}
use Rattle.std.proofs.lemmas.Option.{slice_get_read}
use Rattle.rd_draw.specs.Draw.{keystream_word, shuffled}
use Rattle.rd_draw.proofs.Permuted.{shuffled_long}
use Rattle.obj_core.specs.declared.object.Object.{Object}
use Rattle.obj_core.specs.declared.object.Slot.{Slot}
use Rattle.obj_core.specs.declared.object.CodeAt.{CodeAt}
use Rattle.obj_core.specs.declared.code.CodePlan.{CodePlan}
use Rattle.obj_core.specs.Slots.{slot_base, slot_purpose, positions}
use Rattle.obj_core.specs.Placement.{filler, overlaid, slot_in, index_in, inverse, start_of, address}
use Rattle.obj_core.specs.Plans.{planned, IsPlan}
use Rattle.obj_core.proofs.Looked.{planned_is}
use Rattle.obj_core.proofs.Overlaid.{overlaid_behind, overlaid_first}
use Rattle.obj_core.proofs.Orders.{shuffled_stands, place_again, index_below, inverse_index, inverse_long}
use Rattle.obj_core.specs.Layout.{jump, call, trampoline, trampolines, trampoline_bytes}
use Rattle.obj_lay.proofs.Lengths.{slot_long, slots_long}

-- the first slots
abbrev pub so_far : List Slot → ℕ → List Slot
so_far [] n = []
so_far (s ∷ ss) zero = []
so_far (s ∷ ss) (suc n) = s ∷ so_far ss n

pub so_far_all : (slots : List Slot) (n : ℕ) → length slots ≤ n → so_far slots n ≡ slots
so_far_all [] n h = refl
so_far_all (s ∷ ss) zero h = absurd (omega (arith, h))
so_far_all (s ∷ ss) (suc n) h = ap (λ r. s ∷ r) (so_far_all ss n (omega (arith, h)))

so_far_none : (slots : List Slot) → so_far slots zero ≡ []
so_far_none [] = refl
so_far_none (s ∷ ss) = refl

same_slot : (slots : List Slot) (n k : ℕ) → (k ≡ n → ⊥) → slice_get (so_far slots (suc n)) k ≡ slice_get (so_far slots n) k
same_slot [] n k h = refl
same_slot (s ∷ ss) zero zero h = absurd (h refl)
same_slot (s ∷ ss) zero (suc k) h = ap (λ (r : List Slot). slice_get r k) (so_far_none ss)
same_slot (s ∷ ss) (suc n) zero h = refl
same_slot (s ∷ ss) (suc n) (suc k) h = same_slot ss n k (λ e. h (ap suc e))

new_slot : (slots : List Slot) (n : ℕ) (s : Slot) → slice_get slots n ≡ Some s → slice_get (so_far slots (suc n)) n ≡ Some s
new_slot [] n s e = absurd (cc)
new_slot (t ∷ ss) zero s e = e
new_slot (t ∷ ss) (suc n) s e = new_slot ss n s e

no_slot : (slots : List Slot) (n : ℕ) → slice_get (so_far slots n) n ≡ None
no_slot [] n = refl
no_slot (t ∷ ss) zero = refl
no_slot (t ∷ ss) (suc n) = no_slot ss n

-- breakpoints alone
empty_slots : (code : CodeAt → ℕ) (at ks : List ℕ) → trampolines code at [] ks ≡ filler (16 * length ks)
empty_slots code at [] = refl
empty_slots code at (k ∷ ks) =
    let more : 16 + 16 * length ks ≡ 16 * length (k ∷ ks) = omega arith in
    ap (λ xs. filler 16 ++ xs) (empty_slots code at ks) ∙ replicate-append-replicate 16 (16 * length ks) 0xCC ∙ ap filler more

pub blank_slots : (code : CodeAt → ℕ) (at : List ℕ) (slots : List Slot) (ks : List ℕ) → trampolines code at (so_far slots zero) ks ≡ filler (16 * length ks)
blank_slots code at slots ks = ap (λ ss. trampolines code at ss ks) (so_far_none slots) ∙ empty_slots code at ks

module _ (code : CodeAt → ℕ) (at : List ℕ) (slots : List Slot) (n : ℕ) where
  -- the sixteen bytes of a slot that may not be there
  abbrev bytes_of : List Slot → ℕ → List ℕ
  bytes_of ss k = trampoline code (slot_in at k) (slice_get ss k)

  same_slots : (ks : List ℕ) → ((p : ℕ) → p < length ks → slice_index ks p ≡ n → ⊥) → trampolines code at (so_far slots (suc n)) ks ≡ trampolines code at (so_far slots n) ks
  same_slots [] h = refl
  same_slots (k ∷ ks) h =
      ap (λ x. trampoline code (slot_in at k) x ++ trampolines code at (so_far slots (suc n)) ks) (same_slot slots n k (h 0 (omega arith))) ∙
      ap (λ xs. bytes_of (so_far slots n) k ++ xs) (same_slots ks (λ p lt. h (suc p) (omega (arith, lt))))

  further : (ks : List ℕ) (k q : ℕ) (bytes : List ℕ) → overlaid (trampolines code at (so_far slots n) (k ∷ ks)) (16 * suc q) bytes ≡ bytes_of (so_far slots n) k ++ overlaid (trampolines code at (so_far slots n) ks) (16 * q) bytes
  further ks k q bytes = overlaid_behind (bytes_of (so_far slots n) k) (trampolines code at (so_far slots n) ks) bytes 16 (16 * q) (16 * suc q) (slot_long code (slot_in at k) (slice_get (so_far slots n) k)) (omega arith)

  -- there are breakpoints where the next slot will be
  pub slot_blank : (ks : List ℕ) (q : ℕ) → q < length ks → slice_index ks q ≡ n → trampolines code at (so_far slots n) ks ≡ overlaid (trampolines code at (so_far slots n) ks) (16 * q) (filler 16)
  slot_blank [] q lt e = absurd (omega (arith, lt))
  slot_blank (k ∷ ks) zero lt e =
      let rest = trampolines code at (so_far slots n) ks in
      let here : bytes_of (so_far slots n) k ≡ filler 16 = ap (bytes_of (so_far slots n)) e ∙ ap (trampoline code (slot_in at n)) (no_slot slots n) in
      ap (λ xs. xs ++ rest) here ∙
      sym (overlaid_first (bytes_of (so_far slots n) k) rest (filler 16) (slot_long code (slot_in at k) (slice_get (so_far slots n) k)))
  slot_blank (k ∷ ks) (suc q) lt e =
      ap (λ xs. bytes_of (so_far slots n) k ++ xs) (slot_blank ks q (omega (arith, lt)) e) ∙ sym (further ks k q (filler 16))

  -- one slot more is put over them
  pub slot_written : (s : Slot) → slice_get slots n ≡ Some s → (ks : List ℕ) (q : ℕ) → q < length ks → slice_index ks q ≡ n → ((p : ℕ) → p < length ks → slice_index ks p ≡ n → p ≡ q)
      → trampolines code at (so_far slots (suc n)) ks ≡ overlaid (trampolines code at (so_far slots n) ks) (16 * q) (trampoline code (slot_in at n) (Some s))
  slot_written s there [] q lt e one = absurd (omega (arith, lt))
  slot_written s there (k ∷ ks) zero lt e one =
      let rest = trampolines code at (so_far slots n) ks in
      let others : (p : ℕ) → p < length ks → slice_index ks p ≡ n → ⊥ = λ p h g. absurd (omega (arith, one (suc p) (omega (arith, h)) g)) in
      let here : bytes_of (so_far slots (suc n)) k ≡ trampoline code (slot_in at n) (Some s) = ap (bytes_of (so_far slots (suc n))) e ∙ ap (trampoline code (slot_in at n)) (new_slot slots n s there) in
      ap (λ xs. bytes_of (so_far slots (suc n)) k ++ xs) (same_slots ks others) ∙
      ap (λ xs. xs ++ rest) here ∙
      sym (overlaid_first (bytes_of (so_far slots n) k) rest (trampoline code (slot_in at n) (Some s)) (slot_long code (slot_in at k) (slice_get (so_far slots n) k) ∙ sym (slot_long code (slot_in at n) (Some s))))
  slot_written s there (k ∷ ks) (suc q) lt e one =
      let other : k ≡ n → ⊥ = λ g. absurd (omega (arith, one 0 (omega arith) g)) in
      ap (λ x. trampoline code (slot_in at k) x ++ trampolines code at (so_far slots (suc n)) ks) (same_slot slots n k other) ∙
      ap (λ xs. bytes_of (so_far slots n) k ++ xs) (slot_written s there ks q (omega (arith, lt)) e (λ p h g. omega (arith, one (suc p) (omega (arith, h)) g))) ∙
      sym (further ks k q (trampoline code (slot_in at n) (Some s)))

-- a builder that is ready for its next slot
pub record Ready (o : Object) (code : CodeAt → ℕ) (at : List ℕ) (slots : List Slot) (bytes : List ℕ) (n : ℕ) (s : Slot) : Type 0 where
  pub bound : n < length at
  pub position : slice_index at n < length slots
  pub size : length bytes ≡ 16 * length slots
  pub blank : bytes ≡ overlaid bytes (16 * slice_index at n) (filler 16)
  pub after : overlaid bytes (16 * slice_index at n) (trampoline code (slot_base + 16 * slice_index at n) (Some s)) ≡ trampolines code at (so_far slots (n + 1)) (inverse at)

positions_long : (o : Object) → length (positions o) ≡ length o.slots
unfolding positions
positions_long o = shuffled_long (keystream_word o.slot_seed slot_purpose 0) (length o.slots)

pub all_long : (o : Object) → length (inverse (positions o)) ≡ length o.slots
all_long o = inverse_long (positions o) ∙ positions_long o

module _ (o : Object) (n : ℕ) (lt : n < length o.slots) where
  position_low : slice_index (positions o) n < length o.slots
  unfolding positions
  position_low = index_below (keystream_word o.slot_seed slot_purpose 0) (length o.slots) n lt

  -- the slot that stands at a place is the one whose position this is
  stands_there : slice_index (inverse (positions o)) (slice_index (positions o) n) ≡ n
  unfolding positions
  stands_there =
      let long = shuffled_long (keystream_word o.slot_seed slot_purpose 0) (length o.slots) in
      let low = index_below (keystream_word o.slot_seed slot_purpose 0) (length o.slots) n lt in
      inverse_index (shuffled (keystream_word o.slot_seed slot_purpose 0) (length o.slots)) (slice_index (shuffled (keystream_word o.slot_seed slot_purpose 0) (length o.slots)) n) (omega (arith, long, low)) ∙
      place_again (keystream_word o.slot_seed slot_purpose 0) (length o.slots) n lt

  alone_there : (p : ℕ) → p < length (inverse (positions o)) → slice_index (inverse (positions o)) p ≡ n → p ≡ slice_index (positions o) n
  unfolding positions
  alone_there p low e =
      let words = keystream_word o.slot_seed slot_purpose 0 in
      let long = inverse_long (shuffled words (length o.slots)) in
      let long2 = shuffled_long words (length o.slots) in
      let is : index_in (shuffled words (length o.slots)) p ≡ n = sym (inverse_index (shuffled words (length o.slots)) p (omega (arith, long, low))) ∙ e in
      let there = shuffled_stands words (length o.slots) p (omega (arith, long, long2, low)) in
      sym there.there ∙ ap (slice_index (shuffled words (length o.slots))) is

  ready_here : (code : CodeAt → ℕ) (s : Slot) → slice_get o.slots n ≡ Some s → Ready o code (positions o) o.slots (trampolines code (positions o) (so_far o.slots n) (inverse (positions o))) n s
  ready_here code s there =
      let low = position_low in
      let long = all_long o in
      let within : slice_index (positions o) n < length (inverse (positions o)) = omega (arith, low, long) in
      let next : n + 1 ≡ suc n = omega arith in
      let ps = positions_long o in
      record {
        bound = omega (arith, ps, lt);
        position = low;
        size = slots_long code (positions o) (so_far o.slots n) (inverse (positions o)) ∙ ap (λ m. 16 * m) long;
        blank = slot_blank code (positions o) o.slots n (inverse (positions o)) (slice_index (positions o) n) within stands_there;
        after = sym (ap (λ m. trampolines code (positions o) (so_far o.slots m) (inverse (positions o))) next ∙ slot_written code (positions o) o.slots n s there (inverse (positions o)) (slice_index (positions o) n) within stands_there alone_there);
      }

pub ready : (o : Object) (code : CodeAt → ℕ) (at : List ℕ) (slots : List Slot) (bytes : List ℕ) (n : ℕ) (s : Slot) → at ≡ positions o → slots ≡ o.slots → n < length slots → s ≡ get_or slots n s
    → bytes ≡ trampolines code at (so_far slots n) (inverse at) → Ready o code at slots bytes n s
ready o code at slots bytes n s at_is slots_are lt is bytes_are =
    let low : n < length o.slots = subst (λ (ss : List Slot). n < length ss) slots_are lt in
    let there : slice_get o.slots n ≡ Some s = subst (λ (ss : List Slot). slice_get ss n ≡ Some s) slots_are (slice_get_read slots (length slots) n s refl lt is) in
    subst (λ bs. Ready o code at slots bs n s) (sym bytes_are)
    (subst (λ a. Ready o code a slots (trampolines code a (so_far slots n) (inverse a)) n s) (sym at_is)
    (subst (λ ss. Ready o code (positions o) ss (trampolines code (positions o) (so_far ss n) (inverse (positions o))) n s) (sym slots_are)
    (ready_here o n low code s there)))

-- none, and all of them
pub slots_first : (o : Object) (code : CodeAt → ℕ) (at : List ℕ) (slots : List Slot) → at ≡ positions o → filler (16 * length o.slots) ≡ trampolines code at (so_far slots 0) (inverse at)
slots_first o code at slots at_is =
    ap (λ n. filler (16 * n)) (sym (ap (λ (a : List ℕ). length (inverse a)) at_is ∙ all_long o)) ∙ sym (blank_slots code at slots (inverse at))

pub slots_last : (code : CodeAt → ℕ) (at : List ℕ) (slots all : List Slot) (n : ℕ) → slots ≡ all → length slots ≤ n → trampolines code at (so_far slots n) (inverse at) ≡ trampolines code at all (inverse at)
slots_last code at slots all n e h = ap (λ ss. trampolines code at ss (inverse at)) (so_far_all slots n h ∙ e)

-- the same slots where code has the same addresses
slot_same : (code way : CodeAt → ℕ) → ((c : CodeAt) → code c ≡ way c) → (start : ℕ) (s : Option Slot) → trampoline code start s ≡ trampoline way start s
slot_same code way h start None = refl
slot_same code way h start (Some (Slot.Entry target)) = ap (λ to. jump to (start + 5) ++ filler 11) (h (start_of target))
slot_same code way h start (Some (Slot.Jump target)) = ap (λ to. jump to (start + 5) ++ filler 11) (h (start_of target))
slot_same code way h start (Some (Slot.Call target back)) =
    ap (λ to. call to (start + 5) ++ (jump (code back) (start + 10) ++ filler 6)) (h (start_of target)) ∙
    ap (λ to. call (way (start_of target)) (start + 5) ++ (jump to (start + 10) ++ filler 6)) (h back)
slot_same code way h start (Some (Slot.Indirect back)) = ap (λ to. (0x90 ∷ 0x90 ∷ 0x41 ∷ 0xFF ∷ 0xD3 ∷ []) ++ (jump to (start + 10) ++ filler 6)) (h back)
slot_same code way h start (Some (Slot.System back)) = ap (λ to. (0x0F ∷ 0x05 ∷ 0x90 ∷ 0x90 ∷ 0x90 ∷ []) ++ (jump to (start + 10) ++ filler 6)) (h back)

pub slots_same : (code way : CodeAt → ℕ) → ((c : CodeAt) → code c ≡ way c) → (at : List ℕ) (slots : List Slot) (ks : List ℕ) → trampolines code at slots ks ≡ trampolines way at slots ks
slots_same code way h at slots [] = refl
slots_same code way h at slots (k ∷ ks) =
    ap (λ xs. xs ++ trampolines code at slots ks) (slot_same code way h (slot_in at k) (slice_get slots k)) ∙
    ap (λ xs. trampoline way (slot_in at k) (slice_get slots k) ++ xs) (slots_same code way h at slots ks)

-- the slots of a plan are the layout's
pub planned_slots : (plan : CodePlan) (o : Object) (seed : ℕ) (at : List ℕ) → IsPlan plan o seed → at ≡ positions o → trampolines (planned plan) at o.slots (inverse at) ≡ trampoline_bytes o seed
unfolding trampoline_bytes
planned_slots plan o seed at is same =
    slots_same (planned plan) (address o seed) (λ c. planned_is plan c o seed is) at o.slots (inverse at) ∙
    ap (λ a. trampolines (address o seed) a o.slots (inverse a)) same
