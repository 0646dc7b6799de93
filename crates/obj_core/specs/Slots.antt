-- Where slots stand: at fixed addresses, in an order that the slot seed draws.
use Rattle.std.specs.Prelude.{ℕ, ◌+◌, ◌*◌, List, length, slice_index}
use Rattle.rd_draw.specs.Draw.{keystream_word, shuffled}
use Rattle.obj_core.specs.declared.address.TheConstants.{SLOT_BASE}
use Rattle.obj_core.specs.declared.object.Object.{Object}

abbrev pub slot_base : ℕ
slot_base = SLOT_BASE

-- what the keystream is drawn for
abbrev pub slot_purpose : ℕ
slot_purpose = 2

abbrev pub name_purpose : ℕ
name_purpose = 3

abbrev pub push_purpose : ℕ
push_purpose = 4

-- slot k stands at the k-th of these positions
unfoldable pub positions : Object → List ℕ
positions o = shuffled (keystream_word o.slot_seed slot_purpose 0) (length o.slots)

abbrev pub slot_start : Object → ℕ → ℕ
slot_start o k = slot_base + 16 * slice_index (positions o) k
