-- The words by which a run comes to a place: the address of a slot, and the one behind a slot's call.
use Rattle.std.specs.Prelude.{◌≡◌, ℕ, ◌+◌, ◌<◌, ◌⊎◌, length}
use Rattle.obj_core.specs.declared.object.Object.{Object}
use Rattle.obj_core.specs.declared.object.Place.{Place}
use Rattle.obj_core.specs.Slots.{slot_start}

-- a word is the address of a place where it may land: the start of a slot, or the byte behind its call
abbrev pub LandsAt : Object → ℕ → Place → Type 0
LandsAt o w (Place.Code n off) = ⊥
LandsAt o w (Place.Slot k at) = (k < length o.slots) × ((at ≡ 0) ⊎ (at ≡ 5)) × (w ≡ slot_start o k + at)
