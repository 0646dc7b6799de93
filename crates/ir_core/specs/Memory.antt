-- Memory as a list of objects: what is loaded, stored, copied and compared.
use Rattle.std.specs.Prelude.{ℕ, ◌+◌, ◌%◌, ◌^◌, List, [], ◌∷◌, ◌++◌, Bool, true, false, not, ◌&&◌, nat_eq, nat_lt, nat_le, length, map, take, drop, replicate, slice_get, slice_set, option_map, Option, Some, None, Ok, Err, if◌then◌else◌}
use Rattle.rd_num.specs.declared.width.Width.{Width}
use Rattle.rd_num.specs.Number.{bits, le_bytes, le_number}
use Rattle.ir_core.specs.declared.memory.Value.{Value}
use Rattle.ir_core.specs.declared.memory.Value.TheVariants.{Num, Null, At, Fun}
use Rattle.ir_core.specs.declared.memory.Cell.{Cell}
use Rattle.ir_core.specs.declared.memory.Cell.TheVariants.{Unset, Byte, Piece}
use Rattle.ir_core.specs.declared.memory.Object0.{Object0}
use Rattle.ir_core.specs.declared.memory.Reason.TheVariants.{Bounds, Dead, Constant, Unset as WasUnset, Mixed, Overlap}
use Rattle.ir_core.specs.Stops.{Left, Answer, and_then, Malformed}
use Rattle.ir_core.specs.Kinds.{Kind, NoValue, Number, Pointer}
use Rattle.ir_core.specs.Shapes.{bytes_of}

-- the objects by their numbers
abbrev pub Memory : Type 0
Memory = List Object0

-- whether two values are the same
abbrev pub same_value : Value → Value → Bool
same_value (Num v m) (Num w n) = nat_eq (bits v) (bits w) && nat_eq m n
same_value Null Null = true
same_value (At o d) (At p e) = nat_eq o p && nat_eq d e
same_value (Fun f) (Fun g) = nat_eq f g
same_value u v = false

-- the eight pieces of a place or a function, in order
abbrev pub pointer_cells : Value → List Cell
pointer_cells v = Piece v 0 ∷ Piece v 1 ∷ Piece v 2 ∷ Piece v 3 ∷ Piece v 4 ∷ Piece v 5 ∷ Piece v 6 ∷ Piece v 7 ∷ []

-- what a value is stored as
abbrev pub cells_of : Value → List Cell
cells_of (Num w n) = map Byte (le_bytes (bytes_of w) n)
cells_of Null = map Byte (le_bytes 8 0)
cells_of (At o d) = pointer_cells (At o d)
cells_of (Fun f) = pointer_cells (Fun f)

-- whether one of the cells is unset
abbrev pub any_unset : List Cell → Bool
any_unset [] = false
any_unset (Unset ∷ cs) = true
any_unset (Byte n ∷ cs) = any_unset cs
any_unset (Piece v k ∷ cs) = any_unset cs

-- the numbers, where all cells are numbers
abbrev pub numbers : List Cell → Option (List ℕ)
numbers [] = Some []
numbers (Byte n ∷ cs) = option_map (λ ns. n ∷ ns) (numbers cs)
numbers (Unset ∷ cs) = None
numbers (Piece v k ∷ cs) = None

-- whether two rows of cells are the same, none of them unset
abbrev pub same_cells : List Cell → List Cell → Bool
same_cells [] [] = true
same_cells (Byte m ∷ cs) (Byte n ∷ ds) = nat_eq m n && same_cells cs ds
same_cells (Piece u j ∷ cs) (Piece v k ∷ ds) = (same_value u v && nat_eq j k) && same_cells cs ds
same_cells cs ds = false

-- an i1 is the low bit of its byte
abbrev pub number_read : Width → Option (List ℕ) → Answer Value
number_read w (Some ns) = Ok (Num w (le_number ns % 2 ^ bits w))
number_read w None = Err (Left Mixed)

-- the pieces of one pointer in order, or eight zero bytes for null
abbrev pub pointer_read : List Cell → Answer Value
pointer_read (Piece v k ∷ cs) = if same_cells (Piece v k ∷ cs) (pointer_cells v) then Ok v else Err (Left Mixed)
pointer_read cs = if same_cells cs (cells_of Null) then Ok Null else Err (Left Mixed)

-- the value of a kind that cells hold
abbrev pub value_read : Kind → List Cell → Answer Value
value_read NoValue cs = Err Malformed
value_read (Number w) cs = number_read w (numbers cs)
value_read Pointer cs = pointer_read cs

-- bytes of a value of a kind
abbrev pub kind_size : Kind → ℕ
kind_size NoValue = 0
kind_size (Number w) = bytes_of w
kind_size Pointer = 8

-- a range of an object, once the tests have passed
pub record Range : Type 0 where
  pub object : ℕ
  pub offset : ℕ
  pub held : Object0

-- count bytes from an offset of an object
abbrev pub range_of : ℕ → ℕ → ℕ → Option Object0 → Answer Range
range_of o d count None = Err (Left Bounds)
range_of o d count (Some x) =
    if x.live then (if nat_le (d + count) x.size then Ok (record { object = o; offset = d; held = x }) else Err (Left Bounds)) else Err (Left Dead)

-- the tests of a load, in their order: no place, a dead object, a range that isn't inside
abbrev pub readable_range : Memory → ℕ → Value → Answer Range
readable_range m count (At o d) = range_of o d count (slice_get m o)
readable_range m count (Num w n) = Err (Left Bounds)
readable_range m count Null = Err (Left Bounds)
readable_range m count (Fun f) = Err (Left Bounds)

-- no store goes to a constant object
abbrev pub unless_constant : Range → Answer Range
unless_constant r = if r.held.constant then Err (Left Constant) else Ok r

-- those of a store: a constant object is the last
abbrev pub writable_range : Memory → ℕ → Value → Answer Range
writable_range m count p = and_then (readable_range m count p) unless_constant

-- the cells of a range
abbrev pub cells_at : Range → ℕ → List Cell
cells_at r count = take count (drop r.offset r.held.cells)

-- a load: the tests of its range, then whether its bytes are set, then what they are
abbrev pub load_at : Memory → Kind → Value → Answer Value
load_at m kind p = and_then (readable_range m (kind_size kind) p) (λ r.
    if any_unset (cells_at r (kind_size kind)) then Err (Left WasUnset) else value_read kind (cells_at r (kind_size kind)))

-- memory with other cells from the start of a range on
abbrev pub written : Memory → Range → List Cell → Memory
written m r cells = slice_set m r.object (record r.held { cells = take r.offset r.held.cells ++ cells ++ drop (r.offset + length cells) r.held.cells })

-- a store of a value
abbrev pub store_at : Memory → Value → Value → Answer Memory
store_at m v p = and_then (writable_range m (length (cells_of v)) p) (λ r. Ok (written m r (cells_of v)))

-- a fill of no byte does nothing, whatever the pointer
abbrev pub filled : Memory → Value → ℕ → ℕ → Answer Memory
filled m p byte count = if nat_eq count 0 then Ok m else and_then (writable_range m count p) (λ r. Ok (written m r (replicate count (Byte byte))))

-- the ranges share a byte and don't begin at the same place
abbrev pub overlaps : ℕ → Range → Range → Bool
overlaps count a b = (nat_eq a.object b.object && not (nat_eq a.offset b.offset)) && (nat_lt a.offset (b.offset + count) && nat_lt b.offset (a.offset + count))

-- all tests of the source, then all of the target, then whether they overlap; unset and mixed cells are copied as they are
abbrev pub copied : Memory → Value → Value → ℕ → Answer Memory
copied m to from count =
    if nat_eq count 0 then Ok m else (and_then (readable_range m count from) (λ a. and_then (writable_range m count to) (λ b.
    if overlaps count a b then Err (Left Overlap) else Ok (written m b (cells_at a count)))))

-- a new object of unset bytes; its number is the number of objects before it
abbrev pub with_alloca : Memory → ℕ → Memory
with_alloca m size = m ++ (record { live = true; constant = false; size = size; cells = replicate size Unset }) ∷ []

-- an object once its call has returned
abbrev pub dead : Object0 → Object0
dead x = record x { live = false; cells = [] }

-- memory with that object dead
abbrev pub dead_at : Memory → ℕ → Option Object0 → Memory
dead_at m o None = m
dead_at m o (Some x) = slice_set m o (dead x)

-- memory once the objects of these numbers are dead
abbrev pub without : Memory → List ℕ → Memory
without m [] = m
without m (o ∷ os) = without (dead_at m o (slice_get m o)) os
