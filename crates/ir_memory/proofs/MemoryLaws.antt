-- A range of memory is a range of one object.
use Rattle.std.proofs.Common.{◌≡◌, ℕ, ◌+◌, ◌∙◌, sym, get_or, List, Bool, true, false, Option, Some, None, Ok, Err, nat_le, length, take, drop, replicate, slice_get, slice_set, refl, ap}
use Rattle.std.specs.Prelude.{if◌then◌else◌, Result}
use Rattle.std.proofs.lemmas.List.{set-get_or}
use Rattle.ir_core.specs.declared.memory.Value.{Value}
use Rattle.ir_core.specs.declared.memory.Value.TheVariants.{At}
use Rattle.ir_core.specs.declared.memory.Cell.{Cell}
use Rattle.ir_core.specs.declared.memory.Object0.{Object0}
use Rattle.ir_core.specs.declared.memory.Reason.TheVariants.{Bounds, Dead, Constant}
use Rattle.ir_core.specs.Stops.{Left, Answer, and_then}
use Rattle.ir_core.specs.declared.kind.Kind.{Kind}
use Rattle.ir_core.specs.Memory.{Memory, Range, range_of, unless_constant, written, cells_at, load_at, kind_size}
use Rattle.ir_core.specs.declared.stop.Stop.{Stop}
use Rattle.ir_core.specs.Answers.{answered_as}
use Rattle.ir_memory.specs.Reads.{row_read}
use Rattle.ir_memory.specs.Ranges.{inside, writable, unless_fixed, with_cells, loaded, put, put_run, put_at, run_at, changed_at}

-- the range of an object
abbrev pub range_in : ℕ → ℕ → Object0 → Range
range_in o d x = record { object = o; offset = d; held = x }

-- what follows the tests of a range follows those of the object
pub by_tests : {A : Type 0} (live fits : Bool) (o d : ℕ) (x : Object0) (rest : Range → Answer A)
    → and_then (if live then (if fits then Ok (range_in o d x) else Err (Left Bounds)) else Err (Left Dead)) rest
    ≡ and_then (if live then (if fits then Ok x else Err (Left Bounds)) else Err (Left Dead)) (λ y. rest (range_in o d y))
by_tests true true o d x rest = refl
by_tests true false o d x rest = refl
by_tests false fits o d x rest = refl

-- a step of a step
pub in_turn : {A B C : Type 0} (a : Answer A) (f : A → Answer B) (g : B → Answer C) → and_then (and_then a f) g ≡ and_then a (λ x. and_then (f x) g)
in_turn (Ok x) f g = refl
in_turn (Err e) f g = refl

-- the same where the object must not be constant
unless_fixed_there : {A : Type 0} (fixed : Bool) (o d : ℕ) (x : Object0) (rest : Range → Answer A)
    → and_then (if fixed then Err (Left Constant) else Ok (range_in o d x)) rest ≡ and_then (if fixed then Err (Left Constant) else Ok x) (λ y. rest (range_in o d y))
unless_fixed_there true o d x rest = refl
unless_fixed_there false o d x rest = refl

pub by_more_tests : {A : Type 0} (live fits : Bool) (o d : ℕ) (x : Object0) (rest : Range → Answer A)
    → and_then (and_then (if live then (if fits then Ok (range_in o d x) else Err (Left Bounds)) else Err (Left Dead)) unless_constant) rest
    ≡ and_then (and_then (if live then (if fits then Ok x else Err (Left Bounds)) else Err (Left Dead)) unless_fixed) (λ y. rest (range_in o d y))
by_more_tests true true o d x rest = unless_fixed_there x.constant o d x rest
by_more_tests true false o d x rest = refl
by_more_tests false fits o d x rest = refl

-- a load from an object
pub loads_there : (m : Memory) (kind : Kind) (o d : ℕ) (x : Object0) → slice_get m o ≡ Some x → load_at m kind (At o d) ≡ loaded kind d x
loads_there m kind o d x e =
    ap (λ held. and_then (range_of o d (kind_size kind) held) (λ r. row_read kind (cells_at r (kind_size kind)))) e
    ∙ by_tests x.live (nat_le (d + kind_size kind) x.size) o d x (λ r. row_read kind (cells_at r (kind_size kind)))

pub loads_nowhere : (m : Memory) (kind : Kind) (o d : ℕ) → slice_get m o ≡ None → load_at m kind (At o d) ≡ Err (Left Bounds)
loads_nowhere m kind o d e = ap (λ held. and_then (range_of o d (kind_size kind) held) (λ r. row_read kind (cells_at r (kind_size kind)))) e

-- a change of an object
pub kept_there : {T : Type 0} (m : Memory) (o : ℕ) (x : Object0) (r : Result T Stop) → and_then (answered_as x r) (λ y. Ok (slice_set m o y)) ≡ answered_as (slice_set m o x) r
kept_there m o x (Ok t) = refl
kept_there m o x (Err e) = refl

pub puts_there : {T : Type 0} (m : Memory) (o d : ℕ) (cells : List Cell) (x after : Object0) (r : Result T Stop) → slice_get m o ≡ Some x
    → answered_as after r ≡ put d cells x → answered_as (slice_set m o after) r ≡ put_at m (At o d) cells
puts_there m o d cells x after r there e =
    sym (kept_there m o after r)
    ∙ ap (λ a. and_then a (λ y. Ok (slice_set m o y))) e
    ∙ in_turn (writable d (length cells) x) (λ y. Ok (with_cells d cells y)) (λ y. Ok (slice_set m o y))
    ∙ sym (ap (λ held. and_then (and_then (range_of o d (length cells) held) unless_constant) (λ r. Ok (written m r cells))) there
    ∙ by_more_tests x.live (nat_le (d + length cells) x.size) o d x (λ r. Ok (written m r cells)))

pub puts_nowhere : (m : Memory) (o d : ℕ) (cells : List Cell) → slice_get m o ≡ None → put_at m (At o d) cells ≡ Err (Left Bounds)
puts_nowhere m o d cells e = ap (λ held. and_then (and_then (range_of o d (length cells) held) unless_constant) (λ r. Ok (written m r cells))) e

pub fills_there : {T : Type 0} (m : Memory) (o d count : ℕ) (cell : Cell) (x after : Object0) (r : Result T Stop) → slice_get m o ≡ Some x
    → answered_as after r ≡ put_run d count cell x → answered_as (slice_set m o after) r ≡ run_at m (At o d) count cell
fills_there m o d count cell x after r there e =
    sym (kept_there m o after r)
    ∙ ap (λ a. and_then a (λ y. Ok (slice_set m o y))) e
    ∙ in_turn (writable d count x) (λ y. Ok (with_cells d (replicate count cell) y)) (λ y. Ok (slice_set m o y))
    ∙ sym (ap (λ held. and_then (and_then (range_of o d count held) unless_constant) (λ r. Ok (written m r (replicate count cell)))) there
    ∙ by_more_tests x.live (nat_le (d + count) x.size) o d x (λ r. Ok (written m r (replicate count cell))))

pub fills_nowhere : (m : Memory) (o d count : ℕ) (cell : Cell) → slice_get m o ≡ None → run_at m (At o d) count cell ≡ Err (Left Bounds)
fills_nowhere m o d count cell e = ap (λ held. and_then (and_then (range_of o d count held) unless_constant) (λ r. Ok (written m r (replicate count cell)))) e

-- an object that is put in its own place
pub same_there : (m : Memory) (o : ℕ) (x after : Object0) → x ≡ get_or m o x → after ≡ x → slice_set m o after ≡ m
same_there m o x after e same = ap (slice_set m o) (same ∙ e) ∙ set-get_or m o x

-- a load from a range that was tested
pub loads_inside : (kind : Kind) (from count k : ℕ) (x : Object0) (r : Answer Value) → count ≡ kind_size kind → k ≡ count → Ok x ≡ inside from count x
    → r ≡ row_read kind (take k (drop from x.cells)) → r ≡ loaded kind from x
loads_inside kind from count k x r size same tested is =
    is
    ∙ ap (λ n. row_read kind (take n (drop from x.cells))) (same ∙ size)
    ∙ ap (λ a. and_then a (λ y. row_read kind (take (kind_size kind) (drop from y.cells)))) (tested ∙ ap (λ n. inside from n x) size)
