-- What a source and a sink over streams do to the bytes of a reader and a writer that std knows.
use Rattle.std.specs.Prelude.{ℕ, List, [], ◌∷◌, Option, Some, None, Result, Ok, Err}
use Rattle.std.specs.Io.KnownBytes.{Appends, Consumes, Keeps, IsAtEnd}
use Rattle.rd_io.specs.Outside.{IsPrefixOf}

-- the writer has these bytes more; after a failure it has a prefix of them more
abbrev pub PutsAll : {T E : Type 0} → Option (List ℕ) → Option (List ℕ) → List ℕ → Result T E → Type 0
PutsAll old new bytes (Ok x) = Appends old new bytes
PutsAll old new bytes (Err e) = (part : List ℕ) × (IsPrefixOf part bytes × Appends old new part)

-- the next byte of a reader, or its end; a failure takes nothing
abbrev pub TakesNext : {E : Type 0} → Option (List ℕ) → Option (List ℕ) → Result (Option ℕ) E → Type 0
TakesNext old new (Ok None) = IsAtEnd new
TakesNext old new (Ok (Some b)) = Consumes old new (b ∷ [])
TakesNext old new (Err e) = Keeps old new
