-- How a line is taken apart: at its spaces, and each part as a number or a word. No public contract cites this; that it
-- finds exactly the events of `Script` is proved.
use Rattle.std.specs.Prelude.{◌≡◌, ◌==◌, ℕ, ◌+◌, ◌^◌, ◌≤◌, ◌&&◌, nat_eq, nat_le, if◌then◌else◌, List, ◌∷◌, ◌++◌, length, take, drop, Option, Some, None, Result, Ok, Err, codes}
use Rattle.std.specs.List.{position}
use Rattle.std.specs.Cmp.Lexicographic.{pointwise}
use Rattle.hex.specs.declared.error.FromHexError.{FromHexError}
use Rattle.hex.specs.Hex.{encode_lower, decode_of}
use Rattle.watch_script.specs.declared.event.Event.{Event}
use Rattle.watch_script.specs.declared.event.Event.TheVariants.{Read, Write}
use Rattle.rd_num.specs.Numeral.{numeral}
use Rattle.watch_script.specs.Events.{after_of}
use Rattle.watch_script.specs.Script.{IsLine}

abbrev pub at_place : List ℕ → Option ℕ → Option (List ℕ × List ℕ)
at_place xs None = None
at_place xs (Some i) = Some (take i xs, drop (i + 1) xs)

-- what stands before and behind the first mark
unfoldable pub split_at : ℕ → List ℕ → Option (List ℕ × List ℕ)
split_at mark xs = at_place xs (position (λ x. x == mark) xs)

abbrev pub read_by : Option ℕ → Option ℕ → Option ℕ → Option Event
read_by None at len = None
read_by (Some after) None len = None
read_by (Some after) (Some at) None = None
read_by (Some after) (Some at) (Some len) = if nat_le 1 len then Some (Read after at len) else None

-- the bytes, where these digits are how they are written
abbrev pub written_so : List ℕ → Result (List ℕ) FromHexError → Option (List ℕ)
written_so digits (Err e) = None
written_so digits (Ok bytes) = if pointwise nat_eq (encode_lower bytes) digits then Some bytes else None

-- the bytes of digits in lower case
unfoldable pub bytes_of : List ℕ → Option (List ℕ)
bytes_of digits = written_so digits (decode_of digits)

abbrev pub write_by : Option ℕ → Option ℕ → Option (List ℕ) → Option Event
write_by None at bytes = None
write_by (Some after) None bytes = None
write_by (Some after) (Some at) None = None
write_by (Some after) (Some at) (Some bytes) = if nat_le 1 (length bytes) && nat_le (length bytes) 4096 then Some (Write after at bytes) else None

abbrev pub by_read : List ℕ → List ℕ → List ℕ → Option Event
by_read steps address count = read_by (numeral 10 20 (2 ^ 64) steps) (numeral 16 16 (2 ^ 64) address) (numeral 10 4 4097 count)

abbrev pub by_write : List ℕ → List ℕ → List ℕ → Option Event
by_write steps address digits = write_by (numeral 10 20 (2 ^ 64) steps) (numeral 16 16 (2 ^ 64) address) (bytes_of digits)

abbrev pub by_fields : List ℕ → List ℕ → Option (List ℕ × List ℕ) → Option Event
by_fields steps word None = None
by_fields steps word (Some p) = if pointwise nat_eq word (codes "read") then by_read steps p.0 p.1 else (if pointwise nat_eq word (codes "write") then by_write steps p.0 p.1 else None)

abbrev pub by_word : List ℕ → Option (List ℕ × List ℕ) → Option Event
by_word steps None = None
by_word steps (Some p) = by_fields steps p.0 (split_at 32 p.1)

abbrev pub by_steps : Option (List ℕ × List ℕ) → Option Event
by_steps None = None
by_steps (Some p) = by_word p.0 (split_at 32 p.1)

-- the event of a line
unfoldable pub event_of : List ℕ → Option Event
event_of line = by_steps (split_at 32 line)

-- the next line of a script is an event's, which comes no earlier than after a number of instructions
pub record IsNext (least : ℕ) (bytes : List ℕ) (e : Event) (rest : List ℕ) : Type 0 where
  pub line : List ℕ
  pub parts : bytes ≡ line ++ 10 ∷ rest
  pub is : IsLine line e
  pub late : least ≤ after_of e

-- no line of a script is next
abbrev pub HasNoNext : ℕ → List ℕ → Type 0
HasNoNext least bytes = (e : Event) (rest : List ℕ) → IsNext least bytes e rest → ⊥
