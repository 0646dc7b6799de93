-- The slots of a layout in their bytes.
use Rattle.std.proofs.Common.{◌≡◌, ℕ, zero, suc, ◌-◌, ◌*◌, ◌<◌, List, [], ◌∷◌, ◌++◌, length, drop, Some, ◌∙◌, ap, arith}
use Rattle.std.specs.Prelude.{slice_get, slice_index}
use Rattle.obj_core.specs.declared.object.Object.{Object}
use Rattle.obj_core.specs.declared.object.Slot.{Slot}
use Rattle.obj_core.specs.declared.object.CodeAt.{CodeAt}
use Rattle.obj_core.specs.Slots.{slot_base, slot_start, positions}
use Rattle.obj_core.specs.Placement.{slot_in, inverse, address}
use Rattle.obj_core.specs.Layout.{trampoline, trampolines, trampoline_bytes}
use Rattle.obj_lay.proofs.hidden.Instrs.{drop_behind}
use Rattle.obj_lay.proofs.Lengths.{slot_long}
use Rattle.obj_lay.proofs.hidden.Places.{slot_place}

module _ (code : CodeAt → ℕ) (at : List ℕ) (slots : List Slot) where
  -- one of all slots
  one_there : (ks : List ℕ) (p k : ℕ) → slice_get ks p ≡ Some k → (more : List ℕ) × (drop (16 * p) (trampolines code at slots ks) ≡ trampoline code (slot_in at k) (slice_get slots k) ++ more)
  one_there [] p k e = absurd (cc)
  one_there (j ∷ ks) zero k e =
      let same : j ≡ k = cc in
      (trampolines code at slots ks, ap (λ i. trampoline code (slot_in at i) (slice_get slots i) ++ trampolines code at slots ks) same)
  one_there (j ∷ ks) (suc p) k e =
      let x = one_there ks p k e in
      let less : 16 * suc p - 16 ≡ 16 * p = omega arith in
      (x.0, drop_behind (trampoline code (slot_in at j) (slice_get slots j)) (trampolines code at slots ks) 16 (16 * suc p) (slot_long code (slot_in at j) (slice_get slots j)) (omega arith) ∙ ap (λ n. drop n (trampolines code at slots ks)) less ∙ x.1)

module _ (o : Object) (seed : ℕ) where
  -- a slot's sixteen bytes
  pub slot_there : (k : ℕ) → k < length o.slots → (more : List ℕ) × (drop (slot_start o k - slot_base) (trampoline_bytes o seed) ≡ trampoline (address o seed) (slot_start o k) (slice_get o.slots k) ++ more)
  unfolding trampoline_bytes
  slot_there k lt =
      let x = one_there (address o seed) (positions o) o.slots (inverse (positions o)) (slice_index (positions o) k) k (slot_place o seed k lt) in
      let less : slot_start o k - slot_base ≡ 16 * slice_index (positions o) k = omega arith in
      (x.0, ap (λ n. drop n (trampoline_bytes o seed)) less ∙ x.1)
