-- Ranges of one object: what the tests say, and what a change leaves.
use Rattle.std.specs.Prelude.{ℕ, ◌+◌, List, Bool, true, false, not, ◌&&◌, ◌++◌, nat_eq, nat_lt, nat_le, length, take, drop, replicate, slice_get, slice_set, Option, Some, None, Ok, Err, if◌then◌else◌}
use Rattle.ir_core.specs.declared.memory.Value.{Value}
use Rattle.ir_core.specs.declared.memory.Cell.{Cell}
use Rattle.ir_core.specs.declared.memory.Cell.TheVariants.{Unset}
use Rattle.ir_core.specs.declared.memory.Object0.{Object0}
use Rattle.ir_core.specs.declared.memory.Reason.TheVariants.{Bounds, Dead, Constant, Overlap}
use Rattle.ir_core.specs.Stops.{Left, Answer, and_then}
use Rattle.ir_core.specs.declared.kind.Kind.{Kind}
use Rattle.ir_core.specs.Memory.{Memory, Range, kind_size, range_of, readable_range, writable_range, cells_at, written, overlaps}
use Rattle.ir_memory.specs.Reads.{row_read}

-- a live object of these cells
abbrev pub whole : Bool → List Cell → Object0
whole constant cells = record { live = true; constant = constant; size = length cells; cells = cells }

-- the object, where so many cells from a place on can be read
abbrev pub inside : ℕ → ℕ → Object0 → Answer Object0
inside from count x = if x.live then (if nat_le (from + count) x.size then Ok x else Err (Left Bounds)) else Err (Left Dead)

-- the object, unless it is constant
abbrev pub unless_fixed : Object0 → Answer Object0
unless_fixed x = if x.constant then Err (Left Constant) else Ok x

-- the object, where they can be changed
abbrev pub writable : ℕ → ℕ → Object0 → Answer Object0
writable from count x = and_then (inside from count x) unless_fixed

-- the object with other cells from a place on
abbrev pub with_cells : ℕ → List Cell → Object0 → Object0
with_cells from cells x = record x { cells = take from x.cells ++ cells ++ drop (from + length cells) x.cells }

-- the value of a kind at a place
abbrev pub loaded : Kind → ℕ → Object0 → Answer Value
loaded kind from x = and_then (inside from (kind_size kind) x) (λ y. row_read kind (take (kind_size kind) (drop from y.cells)))

-- the object once cells were put at a place
abbrev pub put : ℕ → List Cell → Object0 → Answer Object0
put from cells x = and_then (writable from (length cells) x) (λ y. Ok (with_cells from cells y))

-- the object once a cell was put at so many places
abbrev pub put_run : ℕ → ℕ → Cell → Object0 → Answer Object0
put_run from count cell x = and_then (writable from count x) (λ y. Ok (with_cells from (replicate count cell) y))

-- the cells of a range that can be read
abbrev pub copied_part : ℕ → ℕ → Object0 → Answer (List Cell)
copied_part from count x = and_then (inside from count x) (λ y. Ok (take count (drop from y.cells)))

-- a memory in which the object of a number is changed, where there is one
abbrev pub changed_at : Memory → ℕ → Option Object0 → (Object0 → Answer Object0) → Answer Memory
changed_at m o None change = Err (Left Bounds)
changed_at m o (Some x) change = and_then (change x) (λ y. Ok (slice_set m o y))

-- memory once cells were put at a pointer
abbrev pub put_at : Memory → Value → List Cell → Answer Memory
put_at m p cells = and_then (writable_range m (length cells) p) (λ r. Ok (written m r cells))

-- memory once a cell was put at so many places from a pointer on
abbrev pub run_at : Memory → Value → ℕ → Cell → Answer Memory
run_at m p count cell = and_then (writable_range m count p) (λ r. Ok (written m r (replicate count cell)))

-- a copy of a range that has no target
abbrev pub without_target : ℕ → ℕ → Object0 → Answer Object0
without_target from count x = and_then (inside from count x) (λ y. Err (Left Bounds))

-- the object once so many cells of another were copied to a place of it
abbrev pub copied_over : ℕ → ℕ → ℕ → Object0 → Object0 → Answer Object0
copied_over from to count source x =
    and_then (inside from count source) (λ s. and_then (writable to count x) (λ y. Ok (with_cells to (take count (drop from s.cells)) y)))

-- two ranges of an object share a byte and don't begin at the same place
abbrev pub overlapping : ℕ → ℕ → ℕ → Bool
overlapping from to count = not (nat_eq from to) && (nat_lt from (to + count) && nat_lt to (from + count))

-- the object once so many of its cells were copied to another place of it
abbrev pub copied_inside : ℕ → ℕ → ℕ → Object0 → Answer Object0
copied_inside from to count x =
    and_then (inside from count x) (λ s. and_then (writable to count x) (λ y.
    if overlapping from to count then Err (Left Overlap) else Ok (with_cells to (take count (drop from s.cells)) y)))

-- memory once some bytes were copied to a pointer, from a range that was tested
abbrev pub copied_to : Memory → ℕ → Value → Range → Answer Memory
copied_to m count to a =
    and_then (writable_range m count to) (λ b. if overlaps count a b then Err (Left Overlap) else Ok (written m b (cells_at a count)))

-- memory once some bytes were copied from a pointer to another
abbrev pub copied_some : Memory → Value → Value → ℕ → Answer Memory
copied_some m to from count = and_then (readable_range m count from) (copied_to m count to)

-- a copy of a range of memory that has no target
abbrev pub without_place : Memory → ℕ → ℕ → ℕ → Answer Memory
without_place m o d count = and_then (range_of o d count (slice_get m o)) (λ r. Err (Left Bounds))
