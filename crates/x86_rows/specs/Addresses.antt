-- Memory as a function of addresses: the byte at each address of a list of segments.
use Rattle.std.specs.Prelude.{◌≡◌, ℕ, zero, suc, ◌+◌, ◌-◌, ◌<◌, ◌≤◌, ◌⊎◌, Bool, true, false, ◌||◌, if◌then◌else◌, List, [], ◌∷◌, length, slice_index, Some}
use Rattle.x86_core.specs.declared.image.Segment.{Segment}
use Rattle.x86_core.specs.Memory.{covers, write_at}

-- the byte at an address, in the first segment that has it; 0 where none has
abbrev pub byte_at : List Segment → ℕ → ℕ
byte_at [] p = 0
byte_at (s ∷ ss) p = if covers s p 1 then slice_index s.bytes (p - s.start) else byte_at ss p

-- the bytes of a range of so many addresses
abbrev pub range_at : List Segment → ℕ → ℕ → List ℕ
range_at ss p zero = []
range_at ss p (suc n) = byte_at ss p ∷ range_at ss (p + 1) n

-- some segment has the address
abbrev pub has_address : List Segment → ℕ → Bool
has_address [] p = false
has_address (s ∷ ss) p = covers s p 1 || has_address ss p

-- no two segments have an address in common
abbrev pub AreDisjoint : List Segment → Type 0
AreDisjoint [] = Unit {0}
AreDisjoint (s ∷ ss) = ((p : ℕ) → covers s p 1 ≡ true → has_address ss p ≡ false) × AreDisjoint ss

-- as many segments, with the same starts, lengths and rights
abbrev pub SameShape : List Segment → List Segment → Type 0
SameShape [] [] = Unit {0}
SameShape (s ∷ ss) (t ∷ ts) = (s.start ≡ t.start) × (length s.bytes ≡ length t.bytes) × (s.rights ≡ t.rights) × SameShape ss ts
SameShape ss ts = ⊥

-- what a write of bytes from an address on leaves: these bytes there, and every other byte as it was
pub record Written (ss : List Segment) (at : ℕ) (bs : List ℕ) : Type 0 where
  pub segments : List Segment
  pub gives : write_at ss at bs ≡ Some segments
  pub shape : SameShape ss segments
  pub range : range_at segments at (length bs) ≡ bs
  pub inside : (i : ℕ) → i < length bs → byte_at segments (at + i) ≡ slice_index bs i
  pub outside : (p : ℕ) → (p < at) ⊎ (at + length bs ≤ p) → byte_at segments p ≡ byte_at ss p
