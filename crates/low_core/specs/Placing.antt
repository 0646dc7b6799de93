-- Where data lies: constants in one part, other globals in another one, in their order, each at the next multiple of sixteen.
use Rattle.std.specs.Prelude.{◌≡◌, ℕ, ◌+◌, ◌-◌, List, [], ◌++◌, Bool, true, false, if◌then◌else◌, length, replicate, take, slice_get, Some}
use Rattle.std.specs.List.{flat_map}
use Rattle.ir_core.specs.Shapes.{rounded}
use Rattle.x86_core.specs.Data.{ro_start, rw_start}
use Rattle.low_core.specs.Plan.{Content}

-- bytes, with zeros up to a multiple of sixteen
abbrev pub padded : List ℕ → List ℕ
padded bytes = bytes ++ replicate (rounded (length bytes) 16 - length bytes) 0

-- the bytes of a global, where it is a constant as that is asked, or none as that is asked
abbrev pub bytes_in_part : Bool → Content → List ℕ
bytes_in_part true c = if c.constant then padded c.bytes else []
bytes_in_part false c = if c.constant then [] else padded c.bytes

-- the part of the constants, or that of the others: the bytes of its globals one after another
abbrev pub part_bytes : Bool → List Content → List ℕ
part_bytes constant contents = flat_map (bytes_in_part constant) contents

-- where the part of the constants begins, and that of the others
abbrev pub part_start : Bool → ℕ
part_start true = ro_start
part_start false = rw_start

-- the address of a global behind others, of which those in its part stand in front of it
abbrev pub address_behind : List Content → Content → ℕ
address_behind before c = part_start c.constant + length (part_bytes c.constant before)

-- globals with these contents have these addresses, and the two parts have these bytes
pub record ArePlaced (contents : List Content) (globals ro rw : List ℕ) : Type 0 where
  pub count : length globals ≡ length contents
  pub addresses : (g at : ℕ) (c : Content) → slice_get globals g ≡ Some at → slice_get contents g ≡ Some c → at ≡ address_behind (take g contents) c
  pub ro_bytes : ro ≡ part_bytes true contents
  pub rw_bytes : rw ≡ part_bytes false contents
