-- What the objects of the outside do to what they tell.
use Rattle.std.specs.Prelude.{ℕ, ◌+◌, ◌-◌, ◌^◌, ◌<◌, ◌≤◌, ◌≡◌, min, Bool, true, false, List, [], ◌∷◌, ◌++◌, length, Option, Some, None, Result, Ok, Err}
use Rattle.rd_io.specs.declared.FileFail.{FileFail}
use Rattle.rd_io.specs.declared.FileFail.TheVariants as file
use Rattle.rd_io.specs.Told.{SinkTold}

-- a file's content as it was read: within the limit, and what is held where that is told
abbrev pub IsContent : Option (List ℕ) → ℕ → List ℕ → Type 0
IsContent None limit bytes = length bytes ≤ limit
IsContent (Some held) limit bytes = (bytes ≡ held) × (length bytes ≤ limit)

-- more than the limit is held, where that is told
abbrev pub IsTooLong : Option (List ℕ) → ℕ → Type 0
IsTooLong None limit = Unit {0}
IsTooLong (Some held) limit = limit < length held

-- a file is answered whole and within the limit; too long is said only of more than the limit
abbrev pub Reads : Option (List ℕ) → ℕ → Result (List ℕ) FileFail → Type 0
Reads held limit (Ok bytes) = IsContent held limit bytes
Reads held limit (Err file.TooLong) = IsTooLong held limit
Reads held limit (Err file.Failed) = Unit {0}
Reads held limit (Err file.NoMemory) = Unit {0}

-- a source gives the next byte of what is left; a failed call takes nothing
abbrev pub Takes : {E : Type 0} → Option (List ℕ) → Option (List ℕ) → Result (Option ℕ) E → Type 0
Takes None new r = new ≡ None
Takes (Some xs) new (Err e) = new ≡ Some xs
Takes (Some []) new (Ok o) = (o ≡ None) × (new ≡ Some [])
Takes (Some (x ∷ xs)) new (Ok o) = (o ≡ Some x) × (new ≡ Some xs)

-- the end is known after a None, no byte comes once it is known, and a fault doesn't change that
abbrev pub Ends : {E : Type 0} → Bool → Bool → Result (Option ℕ) E → Type 0
Ends before now (Ok None) = now ≡ true
Ends before now (Ok (Some b)) = before ≡ false
Ends before now (Err e) = now ≡ before

-- the second is the first with these bytes behind, where it is told
abbrev pub Gets : Option (List ℕ) → Option (List ℕ) → List ℕ → Type 0
Gets None new bytes = new ≡ None
Gets (Some xs) new bytes = new ≡ Some (xs ++ bytes)

-- one list begins another
abbrev pub IsPrefixOf : List ℕ → List ℕ → Type 0
IsPrefixOf xs ys = (rest : List ℕ) × (xs ++ rest ≡ ys)

-- the same with a prefix of these bytes
abbrev pub GetsPart : Option (List ℕ) → Option (List ℕ) → List ℕ → Type 0
GetsPart old new bytes = (part : List ℕ) × (IsPrefixOf part bytes × Gets old new part)

-- a sink appends the bytes; after an error it has a prefix of them more
abbrev pub Appends : {T E : Type 0} → Option (List ℕ) → Option (List ℕ) → List ℕ → Result T E → Type 0
Appends old new bytes (Ok x) = Gets old new bytes
Appends old new bytes (Err e) = GetsPart old new bytes

-- the second is more by n, or by what is left to 2^64 - 1, where it is told
abbrev pub Counts : Option ℕ → Option ℕ → ℕ → Type 0
Counts None new n = new ≡ None
Counts (Some t) new n = new ≡ Some (t + min n (2 ^ 64 - 1 - t))

-- the same by n at most
abbrev pub CountsPart : Option ℕ → Option ℕ → ℕ → Type 0
CountsPart old new n = (k : ℕ) × ((k ≤ n) × Counts old new k)

-- a sink counts the bytes; after an error it has counted some of them
abbrev pub Totals : {T E : Type 0} → Option ℕ → Option ℕ → List ℕ → Result T E → Type 0
Totals old new bytes (Ok x) = Counts old new (length bytes)
Totals old new bytes (Err e) = CountsPart old new (length bytes)

-- a sink has these bytes more and counts them, and no call of it failed
pub record Appended (old new : SinkTold) (bytes : List ℕ) : Type 0 where
  pub written : Gets old.written new.written bytes
  pub total : Counts old.total new.total (length bytes)
  pub faults : new.faults ≡ old.faults

-- a sink has a prefix of these bytes more, and counts some of them
pub record AppendedPart (old new : SinkTold) (bytes : List ℕ) : Type 0 where
  pub written : GetsPart old.written new.written bytes
  pub total : CountsPart old.total new.total (length bytes)

-- the number of these bytes, as far as 2^64 - 1, where both are told
abbrev pub IsCountOf : Option ℕ → Option (List ℕ) → Type 0
IsCountOf None written = Unit {0}
IsCountOf (Some n) None = Unit {0}
IsCountOf (Some n) (Some xs) = n ≡ min (length xs) (2 ^ 64 - 1)
