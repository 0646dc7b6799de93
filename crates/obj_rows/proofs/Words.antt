-- The words by which a run comes to a slot.
use Rattle.std.proofs.Common.{◌≡◌, ℕ, zero, suc, ◌+◌, ◌^◌, ◌<◌, ◌≤◌, List, [], ◌∷◌, length, Some, refl, inl, inr, arith}
use Rattle.std.specs.Prelude.{slice_get}
use Rattle.rd_draw.specs.Draw.{keystream_word}
use Rattle.obj_core.specs.declared.object.Object.{Object}
use Rattle.obj_core.specs.declared.object.Slot.{Slot}
use Rattle.obj_core.specs.declared.object.Place.{Place}
use Rattle.obj_core.specs.Slots.{slot_start, slot_purpose, positions}
use Rattle.obj_core.specs.SymbolicMachine.{symbolic_land}
use Rattle.obj_core.proofs.Orders.{index_below}
use Rattle.obj_core.proofs.Landing.{slots_land}

module _ (o : Object) (k : ℕ) (there : k < length o.slots) where
  -- a slot's address is that of its start, and five bytes on is the place behind its call
  pub start_lands : symbolic_land o (slot_start o k) ≡ Some (Place.Slot k 0)
  start_lands = slots_land o (slot_start o k) (Place.Slot k 0) (there, inl refl, omega arith)

  pub back_lands : symbolic_land o (slot_start o k + 5) ≡ Some (Place.Slot k 5)
  back_lands = slots_land o (slot_start o k + 5) (Place.Slot k 5) (there, inr refl, refl)

  -- both are words of 64 bits, as long as there are no more slots than an object may have
  pub slot_below : length o.slots ≤ 1048576 → slot_start o k + 5 < 2 ^ 64
  unfolding positions
  slot_below few = let below = index_below (keystream_word o.slot_seed slot_purpose 0) (length o.slots) k there in omega (arith, below, few)

-- a slot that is found is one of them
pub found_within : (slots : List Slot) (k : ℕ) (s : Slot) → slice_get slots k ≡ Some s → k < length slots
found_within [] k s e = absurd (cc)
found_within (x ∷ slots) zero s e = omega arith
found_within (x ∷ slots) (suc k) s e = omega (arith, found_within slots k s e)
