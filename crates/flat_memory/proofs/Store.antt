-- The laws of stores, copies and fills.
use Rattle.std.proofs.Common.{◌≡◌, ◌≢◌, ℕ, zero, suc, ◌+◌, ◌-◌, ◌<◌, ◌≤◌, inl, inr, List, length, map, replicate, Some, Ok, Err, Bool, true, false, nat_lt, nat_eq, ◌&&◌, not, if◌then◌else◌, refl, ap, sym, ◌∙◌, subst, arith}
use Rattle.std.proofs.lemmas.Bool.{and_parts, and_from, cases_eq, cases_lt, false_from_ne_true, ltb-true, lt-ltb, eq-eqb, ne_eqb}
use Rattle.rd_num.specs.Number.{le_bytes}
use Rattle.ir_core.specs.declared.memory.Value.{Value}
use Rattle.ir_core.specs.declared.memory.Cell.TheVariants.{Byte}
use Rattle.ir_core.specs.declared.memory.Object0.{Object0}
use Rattle.ir_core.specs.declared.memory.Reason.TheVariants.{Bounds, Constant, Overlap}
use Rattle.ir_core.specs.Stops.{Answer, and_then, Left}
use Rattle.ir_core.specs.Memory.{Memory, Range, readable_range, writable_range, unless_constant, cells_at, cells_of, written, store_at, overlaps}
use Rattle.low_core.specs.Flat.{Span, Bytes, Flat, is_writable, is_inside, bytes_from, with_bytes, with_word_at, ranges_overlap}
use Rattle.low_core.specs.Contents.{Addresses, word_of}
use Rattle.low_core.specs.Bridge.{Setting, CallMemory, flat_in, Lives, address_of, IsKnown, Bridges}
use Rattle.flat_memory.specs.Accesses.{SettingFits, SameObjects, Changes}
use Rattle.flat_memory.proofs.Lists.{length_range}
use Rattle.flat_memory.proofs.Fits.{fit_value}
use Rattle.flat_memory.proofs.Tests.{else_ok, first_ok, InObject, in_object}
use Rattle.flat_memory.proofs.Spans.{writable_part, object_writable}
use Rattle.ir_core.specs.Memory as objects
use Rattle.low_core.specs.Flat as flat
use Rattle.flat_memory.proofs.Fits.{fit_replicate}
use Rattle.flat_memory.proofs.Load.{range_fits, range_inside, inside_word}
use Rattle.flat_memory.proofs.Put.{put_law, put_same}

-- a range that passed the tests of a store
pub record MayWrite (m : Memory) (count : ℕ) (v : Value) (r : Range) : Type 0 where
  pub in_it : InObject m count v r
  pub variable : r.held.constant ≡ false

pub may_write : (m : Memory) (count : ℕ) (v : Value) (r : Range) → writable_range m count v ≡ Ok r → MayWrite m count v r
may_write m count v r h =
    let x = first_ok (readable_range m count v) unless_constant r h in
    let y = else_ok x.first.held.constant (range_answer x.first) (Left Constant) r x.then_is in
    let same : x.first ≡ r = range_same (y.1) in
    record { in_it = in_object m count v r (x.is ∙ ap range_answer same); variable = ap (λ (z : Range). z.held.constant) (sym same) ∙ y.0 }
  where
    range_answer : Range → Answer Range
    range_answer r2 = Ok r2

    range_same : {x y : Range} → range_answer x ≡ range_answer y → x ≡ y
    range_same e = cc

-- an answer that is a memory
abbrev memory_answer : Memory → Answer Memory
memory_answer z = Ok z

memory_same : {y z : Memory} → memory_answer y ≡ memory_answer z → y ≡ z
memory_same e = cc

module _ (g : Setting) (calls : List CallMemory) (m : Memory) (at : Addresses) (bytes : Bytes) (fits : SettingFits g) (b : Bridges g calls m at bytes) where
  abbrev now : Flat
  now = flat_in g calls bytes

  -- a range of an object that isn't constant may be written
  range_writable : (o d n : ℕ) (x : Object0) → Lives m o x → x.constant ≡ false → d + n ≤ x.size → is_writable (address_of at o + d) n now.spans ≡ true
  range_writable o d n x lives variable le =
      writable_part now.spans (address_of at o) x.size (address_of at o + d) n (omega arith) (omega (arith, le)) (object_writable g calls m at bytes fits b o x lives variable)

  -- the address of a range
  range_word : (n : ℕ) (v : Value) (r : Range) → InObject m n v r → word_of at v ≡ address_of at r.object + r.offset
  range_word n v r h = let le = h.inside in ap (word_of at) h.is_place ∙ inside_word g calls m at bytes fits b r.object r.offset r.held h.lives.stands (omega (arith, le))

  -- the law of stores: the low bytes of the value's word are put where the value is stored
  pub store_law : (v p : Value) (m2 : Memory) → IsKnown (length m) g.taken v → store_at m v p ≡ Ok m2 →
      Changes g calls m m2 at (with_word_at now (word_of at p) (length (cells_of v)) (word_of at v))
  store_law v p m2 known h =
      let x = first_ok (writable_range m (length (cells_of v)) p) (λ r. Ok (written m r (cells_of v))) m2 h in
      let w = may_write m (length (cells_of v)) p x.first x.is in
      let r = x.first in
      let same : written m r (cells_of v) ≡ m2 = memory_same x.then_is in
      let there = range_word (length (cells_of v)) p r w.in_it in
      let new = map Some (le_bytes (length (cells_of v)) (word_of at v)) in
      record {
        bytes = with_bytes bytes (address_of at r.object + r.offset) new;
        gives = ap (λ q. with_word_at now q (length (cells_of v)) (word_of at v)) there
            ∙ ap (λ t. if t then Ok (with_bytes bytes (address_of at r.object + r.offset) new) else Err (Left Bounds)) (range_writable r.object r.offset (length (cells_of v)) r.held w.in_it.lives w.variable w.in_it.inside);
        tied = subst (λ z. Bridges g calls z at (with_bytes bytes (address_of at r.object + r.offset) new)) same
            (put_law g calls m at bytes b r (cells_of v) new w.in_it.lives w.in_it.inside (fit_value (length m) g.taken at v known));
        same = subst (SameObjects m) same (put_same g calls m at bytes b r (cells_of v) new w.in_it.lives w.in_it.inside (fit_value (length m) g.taken at v known));
      }

  -- nothing is done to no bytes
  unchanged : (m2 : Memory) (answer : Answer Bytes) → m ≡ m2 → answer ≡ Ok bytes → Changes g calls m m2 at answer
  unchanged m2 answer same e = record {
    bytes = bytes;
    gives = e;
    tied = subst (λ z. Bridges g calls z at bytes) same b;
    same = subst (SameObjects m) same (record { count = refl; before = λ i y l. (y, (l, refl)) });
  }

  -- the law of fills
  fill_some : (p : Value) (byte count : ℕ) (m2 : Memory) → and_then (writable_range m count p) (λ r. memory_answer (written m r (replicate count (Byte byte)))) ≡ Ok m2 →
      Changes g calls m m2 at (flat.if_writable now (word_of at p) count (Ok (with_bytes bytes (word_of at p) (replicate count (Some byte)))))
  fill_some p byte count m2 h =
      let x = first_ok (writable_range m count p) (λ r. memory_answer (written m r (replicate count (Byte byte)))) m2 h in
      let w = may_write m count p x.first x.is in
      let r = x.first in
      let same : written m r (replicate count (Byte byte)) ≡ m2 = memory_same x.then_is in
      let there = range_word count p r w.in_it in
      let new = replicate count (Some byte) in
      let le : r.offset + length (replicate count (Byte byte)) ≤ r.held.size = subst (λ k. r.offset + k ≤ r.held.size) (sym (many count)) w.in_it.inside in
      record {
        bytes = with_bytes bytes (address_of at r.object + r.offset) new;
        gives = ap (λ q. flat.if_writable now q count (Ok (with_bytes bytes q new))) there
            ∙ ap (λ t. if t then Ok (with_bytes bytes (address_of at r.object + r.offset) new) else Err (Left Bounds)) (range_writable r.object r.offset count r.held w.in_it.lives w.variable w.in_it.inside);
        tied = subst (λ z. Bridges g calls z at (with_bytes bytes (address_of at r.object + r.offset) new)) same
            (put_law g calls m at bytes b r (replicate count (Byte byte)) new w.in_it.lives le (fit_replicate (length m) g.taken at count byte));
        same = subst (SameObjects m) same (put_same g calls m at bytes b r (replicate count (Byte byte)) new w.in_it.lives le (fit_replicate (length m) g.taken at count byte));
      }
    where
      many : (k : ℕ) → length (replicate k (Byte byte)) ≡ k
      many zero = refl
      many (suc k) = ap suc (many k)

  pub fill_law : (p : Value) (byte count : ℕ) (m2 : Memory) → objects.filled m p byte count ≡ Ok m2 → Changes g calls m m2 at (flat.filled now (word_of at p) byte count)
  fill_law p byte count m2 h = go (nat_eq count 0) refl h
    where
      go : (none : Bool) → nat_eq count 0 ≡ none → (if none then memory_answer m else and_then (writable_range m count p) (λ r. memory_answer (written m r (replicate count (Byte byte))))) ≡ Ok m2 →
          Changes g calls m m2 at (flat.filled now (word_of at p) byte count)
      go true e h2 = unchanged m2 (flat.filled now (word_of at p) byte count) (memory_same h2) (ap (λ t. if t then Ok bytes else flat.if_writable now (word_of at p) count (Ok (with_bytes bytes (word_of at p) (replicate count (Some byte))))) e)
      go false e h2 =
          let c = fill_some p byte count m2 h2 in
          record { bytes = c.bytes; gives = ap (λ t. if t then Ok bytes else flat.if_writable now (word_of at p) count (Ok (with_bytes bytes (word_of at p) (replicate count (Some byte))))) e ∙ c.gives; tied = c.tied; same = c.same }

  -- ranges of a copy that objects allow don't overlap in flat memory, or begin at one address
  no_overlap : (a c : Range) (count : ℕ) → Lives m a.object a.held → Lives m c.object c.held → a.offset + count ≤ a.held.size → c.offset + count ≤ c.held.size →
      overlaps count a c ≡ false → ranges_overlap (address_of at c.object + c.offset) (address_of at a.object + a.offset) count ≡ false
  no_overlap a c count la lc ina inc h = false_from_ne_true (ranges_overlap to from count) impossible
    where
      to : ℕ
      to = address_of at c.object + c.offset

      from : ℕ
      from = address_of at a.object + a.offset

      -- one address is in both ranges
      shared : to < from + count → from < to + count → a.object ≡ c.object
      shared x y =
          elim (cases_eq a.object c.object) [
            | inl e ↦ e
            | inr ne ↦ elim (cases_lt to from) [
              | inl lt ↦ absurd (b.apart a.object c.object a.offset (c.offset + (from - to)) a.held c.held la lc ne (omega (arith, ina, x, lt)) (omega (arith, inc, y, lt)) (omega (arith, lt)))
              | inr le ↦ absurd (b.apart a.object c.object (a.offset + (to - from)) c.offset a.held c.held la lc ne (omega (arith, ina, x, le)) (omega (arith, inc, x, le)) (omega (arith, le)))
            ]
          ]

      impossible : ranges_overlap to from count ≡ true → ⊥
      impossible r =
          let parts = and_parts (not (nat_eq to from)) (nat_lt to (from + count) && nat_lt from (to + count)) r in
          let both = and_parts (nat_lt to (from + count)) (nat_lt from (to + count)) parts.1 in
          let x : to < from + count = ltb-true to (from + count) both.0 in
          let y : from < to + count = ltb-true from (to + count) both.1 in
          let differ : to ≢ from = not_same to from parts.0 in
          let one = shared x y in
          let place : address_of at a.object ≡ address_of at c.object = ap (address_of at) one in
          let apart_offsets : a.offset ≢ c.offset = (λ e. differ (omega (arith, e, place))) in
          let over : overlaps count a c ≡ true =
          and_from (nat_eq a.object c.object && not (nat_eq a.offset c.offset)) (nat_lt a.offset (c.offset + count) && nat_lt c.offset (a.offset + count))
          (and_from (nat_eq a.object c.object) (not (nat_eq a.offset c.offset)) (eq-eqb a.object c.object one) (ap not (ne_eqb a.offset c.offset apart_offsets)))
          (and_from (nat_lt a.offset (c.offset + count)) (nat_lt c.offset (a.offset + count)) (lt-ltb a.offset (c.offset + count) (omega (arith, y, place))) (lt-ltb c.offset (a.offset + count) (omega (arith, x, place)))) in
          clash over h
        where
          not_same : (p q : ℕ) → not (nat_eq p q) ≡ true → p ≢ q
          not_same p q n e = clash2 (ap not (eq-eqb p q e)) n
            where
              clash2 : {t : Bool} → t ≡ false → t ≡ true → ⊥
              clash2 x2 y2 = absurd (cc)

          clash : {t : Bool} → t ≡ true → t ≡ false → ⊥
          clash x2 y2 = absurd (cc)

  -- the law of copies: numbers, pieces and unset cells alike
  copy_some : (to from : Value) (count : ℕ) (m2 : Memory) →
      and_then (readable_range m count from) (λ a. and_then (writable_range m count to) (λ c. if overlaps count a c then Err (Left Overlap) else memory_answer (written m c (cells_at a count)))) ≡ Ok m2 →
      Changes g calls m m2 at (flat.if_inside now (word_of at from) count (flat.if_writable now (word_of at to) count (
      if ranges_overlap (word_of at to) (word_of at from) count then Err (Left Overlap) else Ok (with_bytes bytes (word_of at to) (bytes_from bytes (word_of at from) count)))))
  copy_some to from count m2 h =
      let x = first_ok (readable_range m count from) (λ a. and_then (writable_range m count to) (λ c. if overlaps count a c then Err (Left Overlap) else memory_answer (written m c (cells_at a count)))) m2 h in
      let y = first_ok (writable_range m count to) (λ c. if overlaps count x.first c then Err (Left Overlap) else memory_answer (written m c (cells_at x.first count))) m2 x.then_is in
      let a = x.first in
      let c = y.first in
      let in_a = in_object m count from a x.is in
      let w = may_write m count to c y.is in
      let z = else_ok (overlaps count a c) (memory_answer (written m c (cells_at a count))) (Left Overlap) m2 y.then_is in
      let same : written m c (cells_at a count) ≡ m2 = memory_same z.1 in
      let start_a : ℕ = address_of at a.object + a.offset in
      let start_c : ℕ = address_of at c.object + c.offset in
      let new = bytes_from bytes start_a count in
      let full = b.full a.object a.held in_a.lives in
      let ina = in_a.inside in
      let long : length (cells_at a count) ≡ count = length_range a.held.cells a.offset count (omega (arith, full, ina)) in
      let le : c.offset + length (cells_at a count) ≤ c.held.size = subst (λ k. c.offset + k ≤ c.held.size) (sym long) w.in_it.inside in
      record {
        bytes = with_bytes bytes start_c new;
        gives = ap (λ q. flat.if_inside now q count (flat.if_writable now (word_of at to) count (if ranges_overlap (word_of at to) q count then Err (Left Overlap) else Ok (with_bytes bytes (word_of at to) (bytes_from bytes q count))))) (range_word count from a in_a)
            ∙ ap (λ q. flat.if_inside now start_a count (flat.if_writable now q count (if ranges_overlap q start_a count then Err (Left Overlap) else Ok (with_bytes bytes q new)))) (range_word count to c w.in_it)
            ∙ ap (λ t. if t then flat.if_writable now start_c count (if ranges_overlap start_c start_a count then Err (Left Overlap) else Ok (with_bytes bytes start_c new)) else Err (Left Bounds)) (range_inside g calls m at bytes fits b a.object a.offset count a.held in_a.lives in_a.inside)
            ∙ ap (λ t. if t then (if ranges_overlap start_c start_a count then Err (Left Overlap) else Ok (with_bytes bytes start_c new)) else Err (Left Bounds)) (range_writable c.object c.offset count c.held w.in_it.lives w.variable w.in_it.inside)
            ∙ ap (λ t. if t then Err (Left Overlap) else Ok (with_bytes bytes start_c new)) (no_overlap a c count in_a.lives w.in_it.lives in_a.inside w.in_it.inside z.0);
        tied = subst (λ k. Bridges g calls k at (with_bytes bytes start_c new)) same
            (put_law g calls m at bytes b c (cells_at a count) new w.in_it.lives le (range_fits g calls m at bytes fits b a count in_a.lives in_a.inside));
        same = subst (SameObjects m) same (put_same g calls m at bytes b c (cells_at a count) new w.in_it.lives le (range_fits g calls m at bytes fits b a count in_a.lives in_a.inside));
      }

  pub copy_law : (to from : Value) (count : ℕ) (m2 : Memory) → objects.copied m to from count ≡ Ok m2 → Changes g calls m m2 at (flat.copied now (word_of at to) (word_of at from) count)
  copy_law to from count m2 h = go (nat_eq count 0) refl h
    where
      go : (none : Bool) → nat_eq count 0 ≡ none →
          (if none then memory_answer m else and_then (readable_range m count from) (λ a. and_then (writable_range m count to) (λ c. if overlaps count a c then Err (Left Overlap) else memory_answer (written m c (cells_at a count))))) ≡ Ok m2 →
          Changes g calls m m2 at (flat.copied now (word_of at to) (word_of at from) count)
      go true e h2 = unchanged m2 (flat.copied now (word_of at to) (word_of at from) count) (memory_same h2) (ap (λ t. if t then Ok bytes else some_bytes) e)
        where
          some_bytes : Answer Bytes
          some_bytes = flat.if_inside now (word_of at from) count (flat.if_writable now (word_of at to) count (
              if ranges_overlap (word_of at to) (word_of at from) count then Err (Left Overlap) else Ok (with_bytes bytes (word_of at to) (bytes_from bytes (word_of at from) count))))
      go false e h2 =
          let c = copy_some to from count m2 h2 in
          record {
            bytes = c.bytes;
            gives = ap (λ t. if t then Ok bytes else flat.if_inside now (word_of at from) count (flat.if_writable now (word_of at to) count (
                if ranges_overlap (word_of at to) (word_of at from) count then Err (Left Overlap) else Ok (with_bytes bytes (word_of at to) (bytes_from bytes (word_of at from) count))))) e ∙ c.gives;
            tied = c.tied;
            same = c.same;
          }
