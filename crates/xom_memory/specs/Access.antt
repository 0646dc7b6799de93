-- What the calls of a memory give, over the list of its segments.
use Rattle.std.specs.Prelude.{ℕ, zero, suc, ◌*◌, ◌&&◌, if◌then◌else◌, option_map, ◌≡◌, Bool, true, false, List, [], ◌∷◌, length, take, drop, Option, None, Some, IsSome, Result, Ok, Err}
use Rattle.std.specs.Option.{unwrap_or}
use Rattle.x86_core.specs.declared.image.Rights.{Rights}
use Rattle.x86_core.specs.declared.image.Segment.{Segment}
use Rattle.x86_core.specs.Memory.{reads, writes, covers, read_at, write_at}
use Rattle.xom_memory.specs.declared.memory.WriteFault.{WriteFault}
use Rattle.xom_memory.specs.declared.memory.WriteFault.TheVariants.{Refused, NoMemory}
use Rattle.xom_memory.specs.declared.lent.ReadableSegment.{ReadableSegment}
use Rattle.xom_memory.specs.declared.lent.Lent.{Lent}
use Rattle.xom_memory.specs.declared.lent.Lent.TheVariants.{Whole, Paged}
use Rattle.xom_memory.specs.Pages.{laid, stack_pages}

-- the bytes of a range that may be read
abbrev pub bytes_at : List Segment → ℕ → ℕ → List ℕ
bytes_at segments at n = unwrap_or (read_at segments at n) []

-- the segments after a write that is allowed; no bytes change nothing
abbrev pub written_at : List Segment → ℕ → List ℕ → List Segment
written_at segments at [] = segments
written_at segments at (b ∷ bs) = unwrap_or (write_at segments at (b ∷ bs)) segments

-- a segment by its first address, its length and its rights
abbrev pub outline_of : Segment → ℕ × ℕ × Rights
outline_of s = (s.start, length s.bytes, s.rights)

-- a segment, where it may be read
abbrev pub where_readable : Segment → Option Segment
where_readable s = if reads s.rights then Some s else None

-- the segment with an index, where there is one that may be read
abbrev pub readable_at : List Segment → ℕ → Option Segment
readable_at [] i = None
readable_at (s ∷ ss) zero = where_readable s
readable_at (s ∷ ss) (suc i) = readable_at ss i

-- the bytes that are lent, in one piece or in pages
abbrev pub lent_bytes : Lent → List ℕ
lent_bytes (Whole bytes) = bytes.now
lent_bytes (Paged pages) = laid stack_pages pages.now

-- a segment that is lent, as a segment
abbrev pub lent : ReadableSegment → Segment
lent s = record { start = s.start; bytes = lent_bytes s.bytes; rights = s.rights }

-- the page of bytes with an index, shorter where the bytes end
abbrev pub page_in : List ℕ → ℕ → List ℕ
page_in bytes i = take 4096 (drop (4096 * i) bytes)

-- a read that took place left these bytes, and one that did not left the old ones
abbrev pub Filled : Bool → Option (List ℕ) → List ℕ → List ℕ → Type 0
Filled true bytes old new = bytes ≡ Some new
Filled false bytes old new = (bytes ≡ None) × (new ≡ old)

-- a write that took place left these segments, and one that did not left the old ones
abbrev pub Wrote : Bool → Option (List Segment) → List Segment → List Segment → Type 0
Wrote true after old new = after ≡ Some new
Wrote false after old new = (after ≡ None) × (new ≡ old)

-- the same of a write that wants memory, which may only be wanting where the write is allowed
abbrev pub Written : {T : Type 0} → Result T WriteFault → Option (List Segment) → List Segment → List Segment → Type 0
Written (Ok x) after old new = after ≡ Some new
Written (Err Refused) after old new = (after ≡ None) × (new ≡ old)
Written (Err NoMemory) after old new = IsSome after × (new ≡ old)

-- refused exactly where there is no right to it
abbrev pub Permits : {T : Type 0} → Result T WriteFault → Bool → Type 0
Permits (Ok x) right = right ≡ true
Permits (Err Refused) right = right ≡ false
Permits (Err NoMemory) right = right ≡ true

-- the index of the first segment that may be written and covers a range
abbrev pub place_of : List Segment → ℕ → ℕ → Option ℕ
place_of [] at n = None
place_of (s ∷ ss) at n = if writes s.rights && covers s at n then Some 0 else option_map suc (place_of ss at n)
