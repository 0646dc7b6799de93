-- Where globals begin of which no more is known than how many bytes they have.
use Rattle.std.specs.Prelude.{ℕ, ◌+◌, List, [], ◌∷◌, Bool, true, false, if◌then◌else◌}
use Rattle.ir_core.specs.declared.module.GlobalVar.{GlobalVar}
use Rattle.ir_core.specs.declared.module.Module.{Module}
use Rattle.ir_core.specs.Counts.{spaced}
use Rattle.ir_context.specs.Extents.{extent_of}
use Rattle.ir_globals.specs.Told.{told_object}
use Rattle.low_core.specs.Contents.{Addresses, content_of}
use Rattle.low_core.specs.Placing.{part_start}
use Rattle.low_core.specs.Plan.{Content}
use Rattle.data_place.specs.declared.starts.Room.{Room}

-- the room of a global, by its type
abbrev pub room_of : Module → GlobalVar → Room
room_of m g = record { constant = g.constant; size = (extent_of m.types g.ty).size }

-- with the gap behind it
abbrev pub space_of : Module → GlobalVar → ℕ
space_of m g = spaced (extent_of m.types g.ty).size

-- the bytes that it takes of the part of the constants, or of that of the others
abbrev pub room_in : Bool → Room → ℕ
room_in true r = if r.constant then spaced r.size else 0
room_in false r = if r.constant then 0 else spaced r.size

-- where a global begins behind so many bytes of either part
abbrev pub start_behind : ℕ → ℕ → Bool → ℕ
start_behind constants others true = part_start true + constants
start_behind constants others false = part_start false + others

-- where globals begin, the first of them behind so many bytes of either part
abbrev pub starts_from : ℕ → ℕ → List Room → List ℕ
starts_from constants others [] = []
starts_from constants others (r ∷ rs) = start_behind constants others r.constant ∷ starts_from (constants + room_in true r) (others + room_in false r) rs

-- the content of a global, by what its initialiser tells
abbrev pub told_content : Module → Addresses → GlobalVar → Content
told_content m at g = content_of at (told_object m g)
