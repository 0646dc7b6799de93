-- What rows of cells read as, one cell or one test at a time.
use Rattle.std.specs.Prelude.{ℕ, ◌+◌, ◌*◌, List, Bool, true, false, ◌&&◌, nat_eq, Option, Some, None, Ok, Err, if◌then◌else◌}
use Rattle.ir_core.specs.declared.memory.Value.{Value}
use Rattle.ir_core.specs.declared.memory.Cell.{Cell}
use Rattle.ir_core.specs.declared.memory.Cell.TheVariants.{Unset, Byte, Piece}
use Rattle.ir_core.specs.declared.memory.Reason.TheVariants.{Unset as WasUnset}
use Rattle.ir_core.specs.Stops.{Left, Answer}
use Rattle.ir_core.specs.declared.kind.Kind.{Kind}
use Rattle.ir_core.specs.Memory.{same_value, any_unset, value_read}

-- whether two cells are the same, neither of them unset
abbrev pub same_cell : Cell → Cell → Bool
same_cell Unset d = false
same_cell (Byte m) Unset = false
same_cell (Byte m) (Byte n) = nat_eq m n
same_cell (Byte m) (Piece v k) = false
same_cell (Piece u j) Unset = false
same_cell (Piece u j) (Byte n) = false
same_cell (Piece u j) (Piece v k) = same_value u v && nat_eq j k

-- the number with a byte below another number
abbrev pub with_low_byte : Cell → ℕ → Option ℕ
with_low_byte Unset above = None
with_low_byte (Byte n) above = Some (n + 256 * above)
with_low_byte (Piece v k) above = None

-- the value of a kind that a row of cells holds, none of which may be unset
abbrev pub row_read : Kind → List Cell → Answer Value
row_read kind cells = if any_unset cells then Err (Left WasUnset) else value_read kind cells
