-- Contents under names, and what objects in memory tell.
use Rattle.std.specs.Prelude.{ℕ, ◌==◌, ◌-◌, ◌^◌, min, nat_le, List, [], ◌∷◌, length, drop, Option, Some, None, if◌then◌else◌}
use Rattle.std.specs.Option.{unwrap_or}
use Rattle.std.specs.Cmp.Lexicographic.{pointwise}
use Rattle.rd_io.specs.declared.memory.File.{File}
use Rattle.rd_io.specs.Told.{FilesTold, SourceTold, SinkTold}

-- the content of the first file with this name
abbrev pub content_of : List File → List ℕ → Option (List ℕ)
content_of [] name = None
content_of (f ∷ fs) name = if pointwise ◌==◌ f.name name then Some f.bytes else content_of fs name

-- the name of the last fault, empty before the first
abbrev pub name_or_empty : Option (List ℕ) → List ℕ
name_or_empty None = []
name_or_empty (Some name) = name

-- the content, or no bytes where the name isn't held
abbrev pub content_or_empty : List File → List ℕ → List ℕ
content_or_empty files name = unwrap_or (content_of files name) []

-- these contents, the name of the last fault, and a count
abbrev pub files_told : (List ℕ → Option (List ℕ)) → Option (List ℕ) → ℕ → FilesTold
files_told held lost faults = record { held = held; lost = name_or_empty lost; faults = faults }

-- the bytes from a place on are left
abbrev pub source_told : List ℕ → ℕ → ℕ → SourceTold
source_told bytes place faults = record { left = Some (drop place bytes); ended = nat_le (length bytes) place; faults = faults }

-- these bytes were written
abbrev pub sink_told : List ℕ → ℕ → SinkTold
sink_told bytes faults = record { written = Some bytes; total = Some (min (length bytes) (2 ^ 64 - 1)); faults = faults }

-- so many bytes were put, none of which is kept
abbrev pub count_told : ℕ → SinkTold
count_told n = record { written = None; total = Some n; faults = 0 }
