-- Slots of an object made of planned ones and of the ends of jumps.
use Rattle.std.specs.Prelude.{ℕ, List, [], ◌∷◌, Option, Some, None}
use Rattle.obj_core.specs.declared.object.CodeAt.{CodeAt}
use Rattle.obj_core.specs.declared.object.Slot.{Slot}
use Rattle.obj_core.specs.declared.plan.Slot0.{Slot0}

-- an end, or the first byte of the first function where there is none
abbrev pub end_or_first : Option CodeAt → CodeAt
end_or_first (Some e) = e
end_or_first None = record { function = 0; offset = 0 }

abbrev pub slot_made : Slot0 → Option CodeAt → Slot
slot_made (Slot0.Entry target) end = Slot.Entry target
slot_made (Slot0.Jump target) end = Slot.Jump target
slot_made (Slot0.Call target site) end = Slot.Call target (end_or_first end)
slot_made (Slot0.Indirect site) end = Slot.Indirect (end_or_first end)
slot_made (Slot0.System site) end = Slot.System (end_or_first end)

-- as long as there are ends
abbrev pub slots_made : List Slot0 → List (Option CodeAt) → List Slot
slots_made [] ends = []
slots_made (s ∷ ss) [] = []
slots_made (s ∷ ss) (e ∷ es) = slot_made s e ∷ slots_made ss es
