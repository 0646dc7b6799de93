-- Memory as a list of segments: which access is allowed, and what it gives.
use Rattle.std.specs.Prelude.{ℕ, ◌+◌, ◌-◌, ◌/◌, ◌%◌, Bool, false, ◌&&◌, ◌||◌, nat_eq, nat_le, if◌then◌else◌, List, [], ◌∷◌, ◌++◌, length, take, drop, Option, Some, None}
use Rattle.x86_core.specs.declared.image.Rights.{Rights}
use Rattle.x86_core.specs.declared.image.Segment.{Segment}

-- the bits of a set of rights: 1 to execute, 2 to write, 4 to read
abbrev pub executes : Rights → Bool
executes r = nat_eq (r.0 % 2) 1

abbrev pub writes : Rights → Bool
writes r = nat_eq (r.0 / 2 % 2) 1

abbrev pub reads : Rights → Bool
reads r = nat_eq (r.0 / 4 % 2) 1

-- the segment covers the whole range of n bytes
abbrev pub covers : Segment → ℕ → ℕ → Bool
covers s at n = nat_le s.start at && nat_le (at + n) (s.start + length s.bytes)

-- one segment covers the whole range and has the right
abbrev pub one_covers : (Rights → Bool) → List Segment → ℕ → ℕ → Bool
one_covers right [] at n = false
one_covers right (s ∷ ss) at n = (right s.rights && covers s at n) || one_covers right ss at n

-- access permission; an empty range is always allowed
abbrev pub is_allowed : (Rights → Bool) → List Segment → ℕ → ℕ → Bool
is_allowed right segments at n = nat_eq n 0 || one_covers right segments at n

-- the bytes of a range, where one segment covers it and may be read
abbrev pub read_at : List Segment → ℕ → ℕ → Option (List ℕ)
read_at [] at n = None
read_at (s ∷ ss) at n = if reads s.rights && covers s at n then Some (take n (drop (at - s.start) s.bytes)) else read_at ss at n

-- the segment with other bytes from an address on
abbrev pub with_bytes : Segment → ℕ → List ℕ → Segment
with_bytes s at bs = record s { bytes = take (at - s.start) s.bytes ++ (bs ++ drop (at - s.start + length bs) s.bytes) }

abbrev pub behind : Segment → Option (List Segment) → Option (List Segment)
behind s None = None
behind s (Some ss) = Some (s ∷ ss)

-- the segments after a write, where one segment covers the range and may be written
abbrev pub write_at : List Segment → ℕ → List ℕ → Option (List Segment)
write_at [] at bs = None
write_at (s ∷ ss) at bs = if writes s.rights && covers s at (length bs) then Some (with_bytes s at bs ∷ ss) else behind s (write_at ss at bs)

-- up to sixteen bytes from an address on, where a segment covers it and may be executed
abbrev pub code_at : List Segment → ℕ → Option (List ℕ)
code_at [] at = None
code_at (s ∷ ss) at = if executes s.rights && covers s at 1 then Some (take 16 (drop (at - s.start) s.bytes)) else code_at ss at

-- the segments that may be read or written: what an observer can reach
abbrev pub data_of : List Segment → List Segment
data_of [] = []
data_of (s ∷ ss) = if reads s.rights || writes s.rights then s ∷ data_of ss else data_of ss

-- the segments that may be executed
abbrev pub code_of : List Segment → List Segment
code_of [] = []
code_of (s ∷ ss) = if executes s.rights then s ∷ code_of ss else code_of ss
