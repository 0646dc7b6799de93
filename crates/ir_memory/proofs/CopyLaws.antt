-- A copy between two ranges of memory is one between two objects, or inside of one.
use Rattle.std.proofs.Common.{◌≡◌, ◌<◌, ◌≤◌, ◌∙◌, ℕ, zero, suc, ◌+◌, sym, get_or, List, [], ◌∷◌, ◌++◌, Bool, true, false, Option, Some, None, Ok, Err, nat_eq, nat_le, length, take, drop, slice_get, slice_set, refl, ap, arith}
use Rattle.std.specs.Prelude.{if◌then◌else◌, Result, ◌&&◌, not, nat_lt}
use Rattle.std.proofs.lemmas.Bool.{eq-eqb, eqb-true}
use Rattle.std.proofs.lemmas.Option.{slice_get_read}
use Rattle.ir_core.specs.declared.memory.Value.{Value}
use Rattle.ir_core.specs.declared.memory.Value.TheVariants.{At}
use Rattle.ir_core.specs.declared.memory.Cell.{Cell}
use Rattle.ir_core.specs.declared.memory.Object0.{Object0}
use Rattle.ir_core.specs.declared.memory.Reason.TheVariants.{Bounds, Overlap}
use Rattle.ir_core.specs.Stops.{Left, Answer, and_then}
use Rattle.ir_core.specs.Memory.{Memory, Range, range_of, unless_constant, written, cells_at, overlaps}
use Rattle.ir_core.specs.declared.stop.Stop.{Stop}
use Rattle.ir_core.specs.Answers.{stop_of, answered_as}
use Rattle.ir_memory.specs.Ranges.{inside, writable, with_cells, without_target, copied_over, copied_inside, copied_to, copied_some, without_place}
use Rattle.ir_memory.proofs.MemoryLaws.{range_in, by_tests, by_more_tests, in_turn, kept_there}

-- nothing is there
abbrev nowhere : {A : Type 0} → Answer A
nowhere = Err (Left Bounds)

-- a copy without a target stops as that of its object
no_memory : (a : Answer Object0) (s : Stop) → and_then {A = Object0} {B = Object0} a (λ y. nowhere) ≡ Err (stop_of s) → and_then {A = Object0} {B = Memory} a (λ y. nowhere) ≡ Err (stop_of s)
no_memory (Ok y) s e = let same : Left Bounds ≡ stop_of s = cc in ap Err same
no_memory (Err t) s e = let same : t ≡ stop_of s = cc in ap Err same

pub copies_nowhere : (m : Memory) (o d count : ℕ) (x : Object0) (s : Stop) → slice_get m o ≡ Some x → without_target d count x ≡ Err (stop_of s)
    → without_place m o d count ≡ Err (stop_of s)
copies_nowhere m o d count x s there e =
    ap (λ held. and_then {A = Range} {B = Memory} (range_of o d count held) (λ r. nowhere)) there
    ∙ by_tests {A = Memory} x.live (nat_le (d + count) x.size) o d x (λ r. nowhere)
    ∙ no_memory (inside d count x) s e

pub copies_from_nothing : (m : Memory) (o d count : ℕ) → slice_get m o ≡ None → without_place m o d count ≡ Err (Left Bounds)
copies_from_nothing m o d count e = ap (λ held. and_then {A = Range} {B = Memory} (range_of o d count held) (λ r. nowhere)) e

-- a copy to a place without an object has no target
pub copies_past : (m : Memory) (o d p e count : ℕ) → slice_get m p ≡ None → copied_some m (At p e) (At o d) count ≡ without_place m o d count
copies_past m o d p e count none = by (range_of o d count (slice_get m o))
  where
    by : (a : Answer Range) → and_then a (copied_to m count (At p e)) ≡ and_then a (λ r. Err (Left Bounds))
    by (Ok a) = ap (λ held. and_then (and_then (range_of p e count held) unless_constant) (λ b. if overlaps count a b then Err (Left Overlap) else Ok (written m b (cells_at a count)))) none
    by (Err t) = refl

pub copies_from_past : (m : Memory) (o d : ℕ) (to : Value) (count : ℕ) → slice_get m o ≡ None → copied_some m to (At o d) count ≡ Err (Left Bounds)
copies_from_past m o d to count none = ap (λ held. and_then (range_of o d count held) (copied_to m count to)) none

-- steps that give the same
then_same : {A B : Type 0} (a : Answer A) (f g : A → Answer B) → ((x : A) → f x ≡ g x) → and_then a f ≡ and_then a g
then_same (Ok x) f g same = same x
then_same (Err t) f g same = refl

-- whether ranges overlap, where it is known whether they are of one object
abbrev overlap_when : Bool → ℕ → ℕ → ℕ → Bool
overlap_when q d e count = (q && not (nat_eq d e)) && (nat_lt d (e + count) && nat_lt e (d + count))

-- the target once cells of the source are in it
abbrev copied_when : Bool → ℕ → ℕ → ℕ → Object0 → Object0 → Answer Object0
copied_when q d e count s x =
    and_then (inside d count s) (λ t. and_then (writable e count x) (λ y. if overlap_when q d e count then Err (Left Overlap) else Ok (with_cells e (take count (drop d t.cells)) y)))

-- a choice, and what follows it
chosen_then : (over : Bool) (m : Memory) (p : ℕ) (y : Object0)
    → (if over then Err (Left Overlap) else Ok (slice_set m p y)) ≡ and_then (if over then Err (Left Overlap) else Ok y) (λ z. Ok (slice_set m p z))
chosen_then true m p y = refl
chosen_then false m p y = refl

-- memory once a range that was tested was copied to another
abbrev copied_range : Memory → ℕ → Range → Range → Answer Memory
copied_range m count a b = if overlaps count a b then Err (Left Overlap) else Ok (written m b (cells_at a count))

-- the target of a copy whose source was tested
copied_target : (m : Memory) (o d p e count : ℕ) (t x : Object0) → slice_get m p ≡ Some x
    → copied_to m count (At p e) (range_in o d t)
    ≡ and_then (writable e count x) (λ y. and_then (if overlap_when (nat_eq o p) d e count then Err (Left Overlap) else Ok (with_cells e (take count (drop d t.cells)) y)) (λ z. Ok (slice_set m p z)))
copied_target m o d p e count t x there =
    ap (λ held. and_then (and_then (range_of p e count held) unless_constant) (copied_range m count (range_in o d t))) there
    ∙ by_more_tests x.live (nat_le (e + count) x.size) p e x (copied_range m count (range_in o d t))
    ∙ then_same (writable e count x) (λ y. copied_range m count (range_in o d t) (range_in p e y)) _ (λ y. chosen_then (overlap_when (nat_eq o p) d e count) m p (with_cells e (take count (drop d t.cells)) y))

-- a copy between two objects that are there
copies_by : (m : Memory) (o d p e count : ℕ) (s x : Object0) (q : Bool) → nat_eq o p ≡ q → slice_get m o ≡ Some s → slice_get m p ≡ Some x
    → copied_some m (At p e) (At o d) count ≡ and_then (copied_when q d e count s x) (λ z. Ok (slice_set m p z))
copies_by m o d p e count s x q same source target =
    ap (λ held. and_then (range_of o d count held) (copied_to m count (At p e))) source
    ∙ by_tests s.live (nat_le (d + count) s.size) o d s (copied_to m count (At p e))
    ∙ then_same (inside d count s) (λ t. copied_to m count (At p e) (range_in o d t)) _ (λ t. copied_target m o d p e count t x target
    ∙ sym (in_turn (writable e count x) (λ y. if overlap_when (nat_eq o p) d e count then Err (Left Overlap) else Ok (with_cells e (take count (drop d t.cells)) y)) (λ z. Ok (slice_set m p z))))
    ∙ sym (in_turn (inside d count s) (λ t. and_then (writable e count x) (λ y. if overlap_when (nat_eq o p) d e count then Err (Left Overlap) else Ok (with_cells e (take count (drop d t.cells)) y))) (λ z. Ok (slice_set m p z)))
    ∙ ap (λ b. and_then (copied_when b d e count s x) (λ z. Ok (slice_set m p z))) same

-- inside of one object
pub copies_within : {T : Type 0} (m : Memory) (o d e count : ℕ) (x after : Object0) (r : Result T Stop) → slice_get m o ≡ Some x
    → answered_as after r ≡ copied_inside d e count x → answered_as (slice_set m o after) r ≡ copied_some m (At o e) (At o d) count
copies_within m o d e count x after r there is =
    sym (kept_there m o after r)
    ∙ ap (λ a. and_then a (λ z. Ok (slice_set m o z))) is
    ∙ sym (copies_by m o d o e count x x true (eq-eqb o o refl) there there)

-- between two
copies_across : {T : Type 0} (m : Memory) (o d p e count : ℕ) (s x after : Object0) (r : Result T Stop) → nat_eq o p ≡ false → slice_get m o ≡ Some s → slice_get m p ≡ Some x
    → answered_as after r ≡ copied_over d e count s x → answered_as (slice_set m p after) r ≡ copied_some m (At p e) (At o d) count
copies_across m o d p e count s x after r apart source target is =
    sym (kept_there m p after r)
    ∙ ap (λ a. and_then a (λ z. Ok (slice_set m p z))) is
    ∙ sym (copies_by m o d p e count s x false apart source target)

-- the places of two lists end to end
get_low : {A : Type 0} (low high : List A) (o : ℕ) (s : A) → o < length low → s ≡ get_or low o s → slice_get (low ++ high) o ≡ Some s
get_low [] high o s within e = absurd (omega arith)
get_low (a ∷ low) high zero s within e = ap Some (sym e)
get_low (a ∷ low) high (suc o) s within e = get_low low high o s (omega arith) e

get_high : {A : Type 0} (low high : List A) (x : A) → 0 < length high → x ≡ get_or high 0 x → slice_get (low ++ high) (length low) ≡ Some x
get_high [] [] x some e = absurd (omega arith)
get_high [] (b ∷ high) x some e = ap Some (sym e)
get_high (a ∷ low) high x some e = get_high low high x some e

set_high : {A : Type 0} (low high : List A) (x : A) → low ++ slice_set high 0 x ≡ slice_set (low ++ high) (length low) x
set_high [] high x = refl
set_high (a ∷ low) high x = ap (λ l. a ∷ l) (set_high low high x)

set_low : {A : Type 0} (low high : List A) (p : ℕ) (x : A) → p < length low → slice_set low p x ++ high ≡ slice_set (low ++ high) p x
set_low [] high p x within = absurd (omega arith)
set_low (a ∷ low) high zero x within = refl
set_low (a ∷ low) high (suc p) x within = ap (λ l. a ∷ l) (set_low low high p x (omega arith))

-- numbers that differ
apart : (o p : ℕ) → o < p → nat_eq o p ≡ false
apart o p less = by (nat_eq o p) refl
  where
    by : (b : Bool) → nat_eq o p ≡ b → b ≡ false
    by true e = let same : o ≡ p = eqb-true o p e in absurd (omega arith)
    by false e = refl

apart_above : (o p : ℕ) → p < o → nat_eq o p ≡ false
apart_above o p less = by (nat_eq o p) refl
  where
    by : (b : Bool) → nat_eq o p ≡ b → b ≡ false
    by true e = let same : o ≡ p = eqb-true o p e in absurd (omega arith)
    by false e = refl

-- to an object past those of the source
pub copies_up : {T : Type 0} (low high : Memory) (o d e count : ℕ) (s x after : Object0) (r : Result T Stop) → o < length low → s ≡ get_or low o s → 0 < length high
    → x ≡ get_or high 0 x → answered_as after r ≡ copied_over d e count s x
    → answered_as (low ++ slice_set high 0 after) r ≡ copied_some (low ++ high) (At (length low) e) (At o d) count
copies_up low high o d e count s x after r within source some target is =
    ap (λ m. answered_as m r) (set_high low high after)
    ∙ copies_across (low ++ high) o d (length low) e count s x after r (apart o (length low) within) (get_low low high o s within source) (get_high low high x some target) is

-- and to one in front of it
pub copies_down : {T : Type 0} (low high : Memory) (p d e count : ℕ) (s x after : Object0) (r : Result T Stop) → p < length low → x ≡ get_or low p x → 0 < length high
    → s ≡ get_or high 0 s → answered_as after r ≡ copied_over d e count s x
    → answered_as (slice_set low p after ++ high) r ≡ copied_some (low ++ high) (At p e) (At (length low) d) count
copies_down low high p d e count s x after r within target some source is =
    ap (λ m. answered_as m r) (set_low low high p after within)
    ∙ copies_across (low ++ high) (length low) d p e count s x after r (apart_above (length low) p within) (get_high low high s some source) (get_low low high p x within target) is
