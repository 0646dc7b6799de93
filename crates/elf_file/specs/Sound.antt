-- Images that a machine can start from.
use Rattle.std.specs.Prelude.{ℕ, ◌≡◌, ◌+◌, ◌%◌, ◌≤◌, List, [], ◌∷◌, length, All, sum_by}
use Rattle.x86_core.specs.declared.image.Segment.{Segment}
use Rattle.x86_core.specs.declared.image.Image.{Image}

-- some right, and no other bit
abbrev pub IsRights : ℕ → Type 0
IsRights bits = (1 ≤ bits) × (bits ≤ 7)

-- some bytes on whole pages, between 0x10000 and 0x90000000
pub record IsSegment (s : Segment) : Type 0 where
  pub rights : IsRights s.rights.0
  pub some : 1 ≤ length s.bytes
  pub aligned : s.start % 4096 ≡ 0
  pub low : 65536 ≤ s.start
  pub high : s.start + length s.bytes ≤ 2415919104

-- the first segment begins at the end or after it, each other at the end of the one before or after it
abbrev pub AreApart : ℕ → List Segment → Type 0
AreApart end [] = Unit {0}
AreApart end (s ∷ ss) = (end ≤ s.start) × AreApart (s.start + length s.bytes) ss

-- how many bytes segments have
abbrev pub total_bytes : List Segment → ℕ
total_bytes ss = sum_by (λ s. length s.bytes) ss

pub record IsSound (i : Image) : Type 0 where
  pub some : 1 ≤ length i.segments
  pub few : length i.segments ≤ 8
  pub each : All IsSegment i.segments
  pub apart : AreApart 0 i.segments
  pub small : total_bytes i.segments ≤ 268435456
