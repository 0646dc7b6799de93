-- Segments that cover ranges, in numbers, and where a byte of a list of segments is found.
use Rattle.std.proofs.Common.{◌≡◌, ℕ, zero, suc, ◌+◌, ◌-◌, ◌/◌, ◌%◌, ◌<◌, ◌≤◌, Bool, true, false, ◌&&◌, ◌||◌, nat_le, if◌then◌else◌, List, [], ◌∷◌, ◌++◌, length, get_or, drop, refl, sym, ◌∙◌, ap, inl, inr, arith}
use Rattle.std.proofs.lemmas.Bool.{cases_Bool, or_cases, and_parts, and_from, leb-true, le-leb, both_ways}
use Rattle.rd_num.specs.Number.{le_bytes}
use Rattle.x86_core.specs.declared.image.Segment.{Segment}
use Rattle.x86_core.specs.declared.image.Rights.{Rights}
use Rattle.x86_core.specs.Memory.{covers, one_covers}
use Rattle.x86_rows.specs.Addresses.{byte_at, range_at, has_address, AreDisjoint}

-- a range that lies in a segment
pub record Within (s : Segment) (at n : ℕ) : Type 0 where
  pub above : s.start ≤ at
  pub below : at + n ≤ s.start + length s.bytes

pub covers_within : (s : Segment) (at n : ℕ) → covers s at n ≡ true → Within s at n
covers_within s at n e =
    let both = and_parts (nat_le s.start at) (nat_le (at + n) (s.start + length s.bytes)) e in
    record { above = leb-true s.start at both.0; below = leb-true (at + n) (s.start + length s.bytes) both.1 }

pub within_covers : (s : Segment) (at n : ℕ) → s.start ≤ at → at + n ≤ s.start + length s.bytes → covers s at n ≡ true
within_covers s at n above below = and_from (nat_le s.start at) (nat_le (at + n) (s.start + length s.bytes)) (le-leb s.start at above) (le-leb (at + n) (s.start + length s.bytes) below)

-- a covered range has only covered addresses
pub covers_each : (s : Segment) (at n p : ℕ) → covers s at n ≡ true → at ≤ p → p < at + n → covers s p 1 ≡ true
covers_each s at n p e from to =
    let w = covers_within s at n e in
    within_covers s p 1 (omega (arith, w.above)) (omega (arith, w.below))

-- choices that are made
pub chosen : {A : Type 0} (b : Bool) (x y : A) → b ≡ true → (if b then x else y) ≡ x
chosen true x y e = refl
chosen false x y e = absurd (cc)

pub passed_over : {A : Type 0} (b : Bool) (x y : A) → b ≡ false → (if b then x else y) ≡ y
passed_over true x y e = absurd (cc)
passed_over false x y e = refl

-- the first segment has the address, or the byte is found behind it
pub byte_first : (s : Segment) (ss : List Segment) (p : ℕ) → covers s p 1 ≡ true → byte_at (s ∷ ss) p ≡ get_or s.bytes (p - s.start) 0
byte_first s ss p e = chosen (covers s p 1) (get_or s.bytes (p - s.start) 0) (byte_at ss p) e

pub byte_behind : (s : Segment) (ss : List Segment) (p : ℕ) → covers s p 1 ≡ false → byte_at (s ∷ ss) p ≡ byte_at ss p
byte_behind s ss p e = passed_over (covers s p 1) (get_or s.bytes (p - s.start) 0) (byte_at ss p) e

-- ranges with the same bytes
pub range_same : (ss ts : List Segment) (n p : ℕ) → ((q : ℕ) → p ≤ q → q < p + n → byte_at ss q ≡ byte_at ts q) → range_at ss p n ≡ range_at ts p n
range_same ss ts zero p same = refl
range_same ss ts (suc n) p same =
    ap (λ b. b ∷ range_at ss (p + 1) n) (same p (omega arith) (omega arith)) ∙
    ap (λ bs. byte_at ts p ∷ bs) (range_same ss ts n (p + 1) (λ q from to. same q (omega (arith, from)) (omega (arith, to))))

-- a range by its bytes, one after another
pub range_is : (ss : List Segment) (bs : List ℕ) (p : ℕ) → ((i : ℕ) → i < length bs → byte_at ss (p + i) ≡ get_or bs i 0) → range_at ss p (length bs) ≡ bs
range_is ss [] p each = refl
range_is ss (b ∷ bs) p each =
    let start : p ≡ p + 0 = omega arith in
    ap (λ c. c ∷ range_at ss (p + 1) (length bs)) (ap (byte_at ss) start ∙ each 0 (omega arith)) ∙
    ap (λ cs. b ∷ cs) (range_is ss bs (p + 1) (λ i lt. let next : p + 1 + i ≡ p + suc i = omega arith in ap (byte_at ss) next ∙ each (suc i) (omega (arith, lt))))

-- a range that a segment covers has only addresses that there are
pub covered_has : (right : Rights → Bool) (ss : List Segment) (at n p : ℕ) → one_covers right ss at n ≡ true → at ≤ p → p < at + n → has_address ss p ≡ true
covered_has right [] at n p e from to = absurd (cc)
covered_has right (s ∷ ss) at n p e from to = elim (or_cases (right s.rights && covers s at n) (one_covers right ss at n) e) [
  | inl here ↦ ap (λ b. b || has_address ss p) (covers_each s at n p (and_parts (right s.rights) (covers s at n) here).1 from to)
  | inr behind ↦ either (covers s p 1) (has_address ss p) (covered_has right ss at n p behind from to)
]
  where
    either : (a b : Bool) → b ≡ true → (a || b) ≡ true
    either true b e = refl
    either false b e = e

-- and a segment before the one that covers it has none of them
pub none_before : (right : Rights → Bool) (s : Segment) (ss : List Segment) (at n p : ℕ) → AreDisjoint (s ∷ ss) → one_covers right ss at n ≡ true → at ≤ p → p < at + n → covers s p 1 ≡ false
none_before right s ss at n p apart e from to = elim (cases_Bool (covers s p 1)) [
  | inl here ↦ absurd (both_ways (has_address ss p) (apart.0 p here) (covered_has right ss at n p e from to))
  | inr none ↦ none
]

-- so it doesn't cover the range, whatever its rights are
pub not_here : (right : Bool) (s : Segment) (at n : ℕ) → 1 ≤ n → covers s at 1 ≡ false → (right && covers s at n) ≡ false
not_here false s at n some e = refl
not_here true s at n some e = elim (cases_Bool (covers s at n)) [
  | inl all ↦ absurd (both_ways (covers s at 1) e (covers_each s at n at all (omega arith) (omega (arith, some))))
  | inr less ↦ less
]

-- a range, and the one behind it
pub range-add : (ss : List Segment) (p n m : ℕ) → range_at ss p (n + m) ≡ range_at ss p n ++ range_at ss (p + n) m
range-add ss p zero m =
    let start : p ≡ p + 0 = omega arith in
    let count : 0 + m ≡ m = omega arith in
    ap (range_at ss p) count ∙ ap (λ q. range_at ss q m) start
range-add ss p (suc n) m =
    let next : p + 1 + n ≡ p + suc n = omega arith in
    let count : suc n + m ≡ suc (n + m) = omega arith in
    ap (range_at ss p) count ∙
    ap (λ bs. byte_at ss p ∷ bs) (range-add ss (p + 1) n m ∙ ap (λ q. range_at ss (p + 1) n ++ range_at ss q m) next)

pub range_length : (ss : List Segment) (p n : ℕ) → length (range_at ss p n) ≡ n
range_length ss p zero = refl
range_length ss p (suc n) = ap suc (range_length ss (p + 1) n)

-- the low bytes of a number stand at the beginning of its range
pub range_begins : (ss : List Segment) (p k more n : ℕ) → range_at ss p (k + more) ≡ le_bytes (k + more) n → range_at ss p k ≡ le_bytes k n
range_begins ss p zero more n e = refl
range_begins ss p (suc k) more n e =
    let count : suc k + more ≡ suc (k + more) = omega arith in
    let both : byte_at ss p ∷ range_at ss (p + 1) (k + more) ≡ n % 256 ∷ le_bytes (k + more) (n / 256) = sym (ap (range_at ss p) count) ∙ e ∙ ap (λ j. le_bytes j n) count in
    ap (λ b. b ∷ range_at ss (p + 1) k) (ap (λ bs. get_or bs 0 0) both) ∙ ap (λ bs. n % 256 ∷ bs) (range_begins ss (p + 1) k more (n / 256) (ap (drop 1) both))
