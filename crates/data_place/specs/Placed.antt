-- The data of a module where it lies: what its globals hold at first, once all that they point to has an address.
use Rattle.std.specs.Prelude.{ℕ, ◌+◌, ◌*◌, List, map}
use Rattle.ir_core.specs.declared.module.Module.{Module}
use Rattle.ir_core.specs.Globals.{first_objects}
use Rattle.low_core.specs.Contents.{Addresses, content_of}
use Rattle.low_core.specs.Placing.{ArePlaced}
use Rattle.low_core.specs.Plan.{Content}
use Rattle.obj_core.specs.declared.address.SlotAddr.{SlotAddr}
use Rattle.obj_core.specs.declared.plan.Placing.{Placing}
use Rattle.obj_core.specs.Slots.{slot_base}

-- a pointer to a function is the address of a slot
abbrev pub slot_word : SlotAddr → ℕ
slot_word a = slot_base + 16 * a.position

-- where globals and functions are
abbrev pub addresses_in : List ℕ → List SlotAddr → Addresses
addresses_in globals pointers = record { objects = globals; functions = map slot_word pointers }

-- what the globals of a module hold at first, a pointer as the bytes of its address
abbrev pub first_contents : Module → List ℕ → List SlotAddr → List Content
first_contents m globals pointers = map (content_of (addresses_in globals pointers)) (first_objects m)

-- a placing holds the data of a module whose functions have these pointers
abbrev pub HoldsData : Module → List SlotAddr → Placing → Type 0
HoldsData m pointers p = ArePlaced (first_contents m p.globals pointers) p.globals p.ro p.rw
