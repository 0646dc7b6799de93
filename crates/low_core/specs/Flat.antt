-- Flat memory: the parts of it that may be used, and a byte at each address, or none where no byte was put yet.
use Rattle.std.specs.Prelude.{ℕ, zero, suc, ◌+◌, List, [], ◌∷◌, Bool, false, not, ◌&&◌, ◌||◌, nat_eq, nat_le, nat_lt, map, replicate, option_map, Option, Some, None, Ok, Err, if◌then◌else◌}
use Rattle.rd_num.specs.Number.{le_bytes, le_number}
use Rattle.ir_core.specs.declared.memory.Reason.TheVariants.{Bounds, Unset, Overlap}
use Rattle.ir_core.specs.Stops.{Left, Answer, and_then, found_or}

-- a global, or the own memory of an active call
pub record Span : Type 0 where
  pub start : ℕ
  pub size : ℕ
  pub writable : Bool

-- the byte at each address
abbrev pub Bytes : Type 0
Bytes = ℕ → Option ℕ

-- memory as a step sees it
pub record Flat : Type 0 where
  pub spans : List Span
  pub bytes : Bytes

-- the span holds the whole range of count bytes from an address on
abbrev pub covers : ℕ → ℕ → Span → Bool
covers at count s = nat_le s.start at && nat_le (at + count) (s.start + s.size)

-- one span holds it
abbrev pub is_inside : ℕ → ℕ → List Span → Bool
is_inside at count [] = false
is_inside at count (s ∷ ss) = covers at count s || is_inside at count ss

-- one that may be written does
abbrev pub is_writable : ℕ → ℕ → List Span → Bool
is_writable at count [] = false
is_writable at count (s ∷ ss) = (s.writable && covers at count s) || is_writable at count ss

-- the bytes from an address on, each with or without one
abbrev pub bytes_from : Bytes → ℕ → ℕ → List (Option ℕ)
bytes_from m at zero = []
bytes_from m at (suc count) = m at ∷ bytes_from m (at + 1) count

-- the bytes, where none is missing
abbrev pub all_set : List (Option ℕ) → Option (List ℕ)
all_set [] = Some []
all_set (None ∷ bs) = None
all_set (Some b ∷ bs) = option_map (λ ns. b ∷ ns) (all_set bs)

-- memory with one byte changed, or taken away
abbrev pub with_byte : Bytes → ℕ → Option ℕ → Bytes
with_byte m at b p = if nat_eq p at then b else m p

-- with bytes from an address on
abbrev pub with_bytes : Bytes → ℕ → List (Option ℕ) → Bytes
with_bytes m at [] = m
with_bytes m at (b ∷ bs) = with_bytes (with_byte m at b) (at + 1) bs

-- without any byte in a range
abbrev pub forgotten : Bytes → ℕ → ℕ → Bytes
forgotten m at count p = if nat_le at p && nat_lt p (at + count) then None else m p

-- the tests of a range, before it is read, and before it is written
abbrev pub if_inside : {A : Type 0} → Flat → ℕ → ℕ → Answer A → Answer A
if_inside f at count rest = if is_inside at count f.spans then rest else Err (Left Bounds)

abbrev pub if_writable : {A : Type 0} → Flat → ℕ → ℕ → Answer A → Answer A
if_writable f at count rest = if is_writable at count f.spans then rest else Err (Left Bounds)

-- the word that count bytes spell
abbrev pub word_at : Flat → ℕ → ℕ → Answer ℕ
word_at f at count = if_inside f at count (and_then (found_or (Left Unset) (all_set (bytes_from f.bytes at count))) (λ ns. Ok (le_number ns)))

-- the low bytes of a word put in their place
abbrev pub with_word_at : Flat → ℕ → ℕ → ℕ → Answer Bytes
with_word_at f at count word = if_writable f at count (Ok (with_bytes f.bytes at (map Some (le_bytes count word))))

-- two ranges share an address and don't begin at the same one
abbrev pub ranges_overlap : ℕ → ℕ → ℕ → Bool
ranges_overlap to from count = not (nat_eq to from) && (nat_lt to (from + count) && nat_lt from (to + count))

-- bytes copied, those that are missing too: first the source is tested, then the target, then both. Of no bytes nothing is asked
abbrev pub copied : Flat → ℕ → ℕ → ℕ → Answer Bytes
copied f to from count =
    if nat_eq count 0 then Ok f.bytes else (if_inside f from count (if_writable f to count (
    if ranges_overlap to from count then Err (Left Overlap) else Ok (with_bytes f.bytes to (bytes_from f.bytes from count)))))

-- one byte put everywhere in a range
abbrev pub filled : Flat → ℕ → ℕ → ℕ → Answer Bytes
filled f to byte count = if nat_eq count 0 then Ok f.bytes else if_writable f to count (Ok (with_bytes f.bytes to (replicate count (Some byte))))
