-- An access gives something exactly where it is allowed, and as many bytes as it asks for.
use Rattle.std.proofs.Common.{◌≡◌, ℕ, ◌+◌, ◌-◌, ◌≤◌, min, Bool, true, false, ◌&&◌, ◌||◌, List, [], ◌∷◌, length, take, drop, Option, Some, None, refl, ap, sym, ◌∙◌, arith, if◌then◌else◌, length-take, length-drop}
use Rattle.std.proofs.lemmas.Bool.Decides.{nat_tests}
use Rattle.std.specs.Option.{unwrap_or}
use Rattle.x86_core.specs.declared.image.Segment.{Segment}
use Rattle.x86_core.specs.Memory.{reads, writes, executes, covers, one_covers, read_at, write_at, code_at, with_bytes, behind}

-- a range that a segment covers lies between its ends
inside : (right : Bool) (s : Segment) (at n : ℕ) → (right && covers s at n) ≡ true → (s.start ≤ at) × (at + n ≤ s.start + length s.bytes)
inside true s at n e = grind (arith, nat_tests)
inside false s at n e = absurd (cc)

pub read_length : (ss : List Segment) (at n : ℕ) (bs : List ℕ) → read_at ss at n ≡ Some bs → length bs ≡ n
read_length [] at n bs e = absurd (cc)
read_length (s ∷ ss) at n bs e = by (reads s.rights && covers s at n) (inside (reads s.rights) s at n) (read_length ss at n bs) e
  where
    by : (c : Bool) → (c ≡ true → (s.start ≤ at) × (at + n ≤ s.start + length s.bytes)) → (read_at ss at n ≡ Some bs → length bs ≡ n) →
        (if c then Some (take n (drop (at - s.start) s.bytes)) else read_at ss at n) ≡ Some bs → length bs ≡ n
    by true is go e =
        let i = is refl in
        let same : take n (drop (at - s.start) s.bytes) ≡ bs = cc in
        let k : length bs ≡ min n (length s.bytes - (at - s.start)) = sym (ap length same) ∙ length-take n (drop (at - s.start) s.bytes) ∙ ap (min n) (length-drop (at - s.start) s.bytes) in
        omega (arith, i.0, i.1)
    by false is go e = go e

pub code_count : (ss : List Segment) (at : ℕ) (bs : List ℕ) → code_at ss at ≡ Some bs → (1 ≤ length bs) × (length bs ≤ 16)
code_count [] at bs e = absurd (cc)
code_count (s ∷ ss) at bs e = by (executes s.rights && covers s at 1) (inside (executes s.rights) s at 1) (code_count ss at bs) e
  where
    by : (c : Bool) → (c ≡ true → (s.start ≤ at) × (at + 1 ≤ s.start + length s.bytes)) → (code_at ss at ≡ Some bs → (1 ≤ length bs) × (length bs ≤ 16)) →
        (if c then Some (take 16 (drop (at - s.start) s.bytes)) else code_at ss at) ≡ Some bs → (1 ≤ length bs) × (length bs ≤ 16)
    by true is go e =
        let i = is refl in
        let same : take 16 (drop (at - s.start) s.bytes) ≡ bs = cc in
        let k : length bs ≡ min 16 (length s.bytes - (at - s.start)) = sym (ap length same) ∙ length-take 16 (drop (at - s.start) s.bytes) ∙ ap (min 16) (length-drop (at - s.start) s.bytes) in
        (omega (arith, i.0, i.1), omega (arith, i.0, i.1))
    by false is go e = go e

pub read_allowed : (ss : List Segment) (at n : ℕ) (bs : List ℕ) → read_at ss at n ≡ Some bs → one_covers reads ss at n ≡ true
read_allowed [] at n bs e = absurd (cc)
read_allowed (s ∷ ss) at n bs e = by (reads s.rights && covers s at n) (read_allowed ss at n bs) e
  where
    by : (c : Bool) → (read_at ss at n ≡ Some bs → one_covers reads ss at n ≡ true) →
        (if c then Some (take n (drop (at - s.start) s.bytes)) else read_at ss at n) ≡ Some bs → (c || one_covers reads ss at n) ≡ true
    by true go e = refl
    by false go e = go e

pub read_refused : (ss : List Segment) (at n : ℕ) → read_at ss at n ≡ None → one_covers reads ss at n ≡ false
read_refused [] at n e = refl
read_refused (s ∷ ss) at n e = by (reads s.rights && covers s at n) (read_refused ss at n) e
  where
    by : (c : Bool) → (read_at ss at n ≡ None → one_covers reads ss at n ≡ false) →
        (if c then Some (take n (drop (at - s.start) s.bytes)) else read_at ss at n) ≡ None → (c || one_covers reads ss at n) ≡ false
    by true go e = absurd (cc)
    by false go e = go e

pub write_allowed : (ss more : List Segment) (at : ℕ) (bs : List ℕ) → write_at ss at bs ≡ Some more → one_covers writes ss at (length bs) ≡ true
write_allowed [] more at bs e = absurd (cc)
write_allowed (s ∷ ss) more at bs e = by (writes s.rights && covers s at (length bs)) (write_at ss at bs) (λ m. write_allowed ss m at bs) refl e
  where
    by : (c : Bool) (o : Option (List Segment)) → ((m : List Segment) → write_at ss at bs ≡ Some m → one_covers writes ss at (length bs) ≡ true) → write_at ss at bs ≡ o →
        (if c then Some (with_bytes s at bs ∷ ss) else behind s o) ≡ Some more → (c || one_covers writes ss at (length bs)) ≡ true
    by true o go f e = refl
    by false None go f e = absurd (cc)
    by false (Some m) go f e = go m f

pub write_refused : (ss : List Segment) (at : ℕ) (bs : List ℕ) → write_at ss at bs ≡ None → one_covers writes ss at (length bs) ≡ false
write_refused [] at bs e = refl
write_refused (s ∷ ss) at bs e = by (writes s.rights && covers s at (length bs)) (write_at ss at bs) (write_refused ss at bs) refl e
  where
    by : (c : Bool) (o : Option (List Segment)) → (write_at ss at bs ≡ None → one_covers writes ss at (length bs) ≡ false) → write_at ss at bs ≡ o →
        (if c then Some (with_bytes s at bs ∷ ss) else behind s o) ≡ None → (c || one_covers writes ss at (length bs)) ≡ false
    by true o go f e = absurd (cc)
    by false None go f e = go f
    by false (Some m) go f e = absurd (cc)

-- an empty range has no bytes
pub read_nothing : (ss : List Segment) (at : ℕ) → unwrap_or (read_at ss at 0) [] ≡ []
read_nothing [] at = refl
read_nothing (s ∷ ss) at = by (reads s.rights && covers s at 0) (read_nothing ss at)
  where
    by : (c : Bool) → unwrap_or (read_at ss at 0) [] ≡ [] → unwrap_or (if c then Some (take 0 (drop (at - s.start) s.bytes)) else read_at ss at 0) [] ≡ []
    by true go = refl
    by false go = go
