-- A small object, for tests: a jump to slot 0, an invalid instruction, and two slots.
use Rattle.std.specs.Prelude.{[], ◌∷◌}
use Rattle.obj_core.specs.declared.object.Object.{Object}
use Rattle.obj_core.specs.declared.object.Func.{Func}
use Rattle.obj_core.specs.declared.object.FuncKind.{FuncKind}
use Rattle.obj_core.specs.declared.object.Slot.{Slot}

-- ud2
abbrev pub invalid : Func
invalid = record { kind = FuncKind.Plain; bytes = 15 ∷ 11 ∷ []; links = []; cuts = [] }

-- jmp to slot 0
abbrev pub jump_on : Func
jump_on = record { kind = FuncKind.Plain; bytes = 233 ∷ 0 ∷ 0 ∷ 0 ∷ 0 ∷ []; links = record { at = 1; slot = 0 } ∷ []; cuts = [] }

-- the entry, and a call that comes back to the jump
abbrev pub small : Object
small = record { slot_seed = 1; reg_seed = 0; functions = jump_on ∷ invalid ∷ []; slots = Slot.Entry 1 ∷ Slot.Call 1 (record { function = 0; offset = 0 }) ∷ []; ro = []; rw = [] }
