-- Which words land: those of slots, each at its own slot.
use Rattle.std.proofs.Common.{◌≡◌, ℕ, zero, suc, ◌+◌, ◌*◌, ◌<◌, ◌⊎◌, inl, inr, Bool, true, false, List, [], ◌∷◌, length, Option, Some, if◌then◌else◌, refl, sym, ◌∙◌, ap, subst, arith}
use Rattle.std.specs.Prelude.{nat_eq, slice_index}
use Rattle.std.proofs.lemmas.Bool.{eqb-true, eq-eqb, ne_eqb}
use Rattle.rd_draw.specs.Draw.{keystream_word}
use Rattle.rd_draw.proofs.Permuted.{shuffled_long, shuffled_apart}
use Rattle.obj_core.specs.declared.object.Object.{Object}
use Rattle.obj_core.specs.declared.object.Place.{Place}
use Rattle.obj_core.specs.Slots.{slot_base, slot_purpose, positions}
use Rattle.obj_core.specs.SymbolicMachine.{landing_from, symbolic_land}
use Rattle.obj_core.specs.Landing.{LandsAt}

-- a word is found at one of these positions
record IsFound (ps : List ℕ) (k w : ℕ) (p : Place) : Type 0 where
  index : ℕ
  within : index < length ps
  at : ℕ
  landing : (at ≡ 0) ⊎ (at ≡ 5)
  place : p ≡ Place.Slot (k + index) at
  word : w ≡ slot_base + 16 * slice_index ps index + at

-- among the other positions
found_behind : (q : ℕ) (ps : List ℕ) (k w : ℕ) (p : Place) → IsFound ps (k + 1) w p → IsFound (q ∷ ps) k w p
found_behind q ps k w p h =
    let one : k + 1 + h.index ≡ k + suc h.index = omega arith in
    record { index = suc h.index; within = omega (arith, h.within); at = h.at; landing = h.landing; place = h.place ∙ ap (λ n. Place.Slot n h.at) one; word = h.word }

-- at this position, by one of its two tests
found_here : (q : ℕ) (ps : List ℕ) (k w at : ℕ) (p : Place) → (at ≡ 0) ⊎ (at ≡ 5) → Some (Place.Slot k at) ≡ Some p → w ≡ slot_base + 16 * q + at → IsFound (q ∷ ps) k w p
found_here q ps k w at p landing e word =
    let none : k ≡ k + 0 = omega arith in
    let here : Place.Slot k at ≡ p = cc in
    record { index = 0; within = omega arith; at = at; landing = landing; place = sym here ∙ ap (λ n. Place.Slot n at) none; word = word }

-- what is found is a word of its slot
landing_found : (ps : List ℕ) (k w : ℕ) (p : Place) → landing_from ps k w ≡ Some p → IsFound ps k w p
landing_found [] k w p e = absurd (cc)
landing_found (q ∷ ps) k w p e = by_start (landing_found ps (k + 1) w p) (nat_eq w (slot_base + 16 * q)) refl (nat_eq w (slot_base + 16 * q + 5)) refl e
  where
    by_start : (landing_from ps (k + 1) w ≡ Some p → IsFound ps (k + 1) w p) → (s : Bool) → nat_eq w (slot_base + 16 * q) ≡ s → (t : Bool) → nat_eq w (slot_base + 16 * q + 5) ≡ t →
        (if s then Some (Place.Slot k 0) else (if t then Some (Place.Slot k 5) else landing_from ps (k + 1) w)) ≡ Some p → IsFound (q ∷ ps) k w p
    by_start others true same t other e = found_here q ps k w 0 p (inl refl) e (let word = eqb-true w (slot_base + 16 * q) same in omega (arith, word))
    by_start others false differ true same e = found_here q ps k w 5 p (inr refl) e (eqb-true w (slot_base + 16 * q + 5) same)
    by_start others false differ false other e = found_behind q ps k w p (others e)

-- positions that differ
abbrev AllDiffer : List ℕ → Type 0
AllDiffer ps = (i j : ℕ) → i < length ps → j < length ps → slice_index ps i ≡ slice_index ps j → i ≡ j

-- neither test takes a word of another position
passed : (q r w at k : ℕ) (rest : Option Place) → (q ≡ r → ⊥) → (at ≡ 0) ⊎ (at ≡ 5) → w ≡ slot_base + 16 * r + at →
    (if nat_eq w (slot_base + 16 * q) then Some (Place.Slot k 0) else (if nat_eq w (slot_base + 16 * q + 5) then Some (Place.Slot k 5) else rest)) ≡ rest
passed q r w at k rest differ landing word =
    let small : at < 6 = elim landing [ inl e ↦ omega (arith, e) | inr e ↦ omega (arith, e) ] in
    let five : (at ≡ 5) ⊎ (at < 5) = elim landing [ inl e ↦ inr (omega (arith, e)) | inr e ↦ inl e ] in
    let first : nat_eq w (slot_base + 16 * q) ≡ false = ne_eqb w (slot_base + 16 * q) (λ e. differ (omega (arith, e, word, small))) in
    let second : nat_eq w (slot_base + 16 * q + 5) ≡ false = ne_eqb w (slot_base + 16 * q + 5) (λ e. differ (omega (arith, e, word, small))) in
    ap (λ t. if t then Some (Place.Slot k 0) else (if nat_eq w (slot_base + 16 * q + 5) then Some (Place.Slot k 5) else rest)) first ∙
    ap (λ t. if t then Some (Place.Slot k 5) else rest) second

-- a word of its own position is taken by the first test, or by the second
taken : (q w at k : ℕ) (rest : Option Place) → (at ≡ 0) ⊎ (at ≡ 5) → w ≡ slot_base + 16 * q + at →
    (if nat_eq w (slot_base + 16 * q) then Some (Place.Slot k 0) else (if nat_eq w (slot_base + 16 * q + 5) then Some (Place.Slot k 5) else rest)) ≡ Some (Place.Slot k at)
taken q w at k rest (inl e) word =
    let first : nat_eq w (slot_base + 16 * q) ≡ true = eq-eqb w (slot_base + 16 * q) (omega (arith, e, word)) in
    ap (λ t. if t then Some (Place.Slot k 0) else (if nat_eq w (slot_base + 16 * q + 5) then Some (Place.Slot k 5) else rest)) first ∙ ap (λ n. Some (Place.Slot k n)) (sym e)
taken q w at k rest (inr e) word =
    let first : nat_eq w (slot_base + 16 * q) ≡ false = ne_eqb w (slot_base + 16 * q) (λ z. omega (arith, e, word, z)) in
    let second : nat_eq w (slot_base + 16 * q + 5) ≡ true = eq-eqb w (slot_base + 16 * q + 5) (omega (arith, e, word)) in
    ap (λ t. if t then Some (Place.Slot k 0) else (if nat_eq w (slot_base + 16 * q + 5) then Some (Place.Slot k 5) else rest)) first ∙
    ap (λ t. if t then Some (Place.Slot k 5) else rest) second ∙ ap (λ n. Some (Place.Slot k n)) (sym e)

-- a word of one of the positions is found there
lands : (ps : List ℕ) → AllDiffer ps → (k i w at : ℕ) → i < length ps → (at ≡ 0) ⊎ (at ≡ 5) → w ≡ slot_base + 16 * slice_index ps i + at → landing_from ps k w ≡ Some (Place.Slot (k + i) at)
lands [] apart k i w at lt landing word = absurd (omega (arith, lt))
lands (q ∷ ps) apart k zero w at lt landing word =
    let none : k ≡ k + 0 = omega arith in
    taken q w at k (landing_from ps (k + 1) w) landing word ∙ ap (λ n. Some (Place.Slot n at)) none
lands (q ∷ ps) apart k (suc i) w at lt landing word =
    let one : k + 1 + i ≡ k + suc i = omega arith in
    let differ : q ≡ slice_index ps i → ⊥ = λ e. let z : 0 ≡ suc i = apart 0 (suc i) (omega arith) lt e in absurd (omega (arith, z)) in
    passed q (slice_index ps i) w at k (landing_from ps (k + 1) w) differ landing word ∙
    lands ps (λ a b x y e. let z : suc a ≡ suc b = apart (suc a) (suc b) (omega (arith, x)) (omega (arith, y)) e in omega (arith, z)) (k + 1) i w at (omega (arith, lt)) landing word ∙
    ap (λ n. Some (Place.Slot n at)) one

module _ (o : Object) where
  -- each slot has a position
  pub positions_long : length (positions o) ≡ length o.slots
  unfolding positions
  positions_long = shuffled_long (keystream_word o.slot_seed slot_purpose 0) (length o.slots)

  -- no two slots have one
  positions_apart : AllDiffer (positions o)
  unfolding positions
  positions_apart = shuffled_apart (keystream_word o.slot_seed slot_purpose 0) (length o.slots)

  -- a word that lands is one of a slot
  pub landing_is : (w : ℕ) (p : Place) → symbolic_land o w ≡ Some p → LandsAt o w p
  landing_is w p e =
      let x = landing_found (positions o) 0 w p e in
      let none : 0 + x.index ≡ x.index = omega arith in
      let long = positions_long in
      subst (LandsAt o w) (sym (x.place ∙ ap (λ n. Place.Slot n x.at) none)) (omega (arith, x.within, long), x.landing, x.word)

  -- and each of these lands
  pub slots_land : (w : ℕ) (p : Place) → LandsAt o w p → symbolic_land o w ≡ Some p
  slots_land w (Place.Code n off) h = absurd h
  slots_land w (Place.Slot k at) h =
      let none : 0 + k ≡ k = omega arith in
      let long = positions_long in
      lands (positions o) positions_apart 0 k w at (omega (arith, h.0, long)) h.1 h.2 ∙ ap (λ n. Some (Place.Slot n at)) none
