-- Which bytes are which script, and which line is the first that is none.
use Rattle.std.specs.Prelude.{◌≡◌, ℕ, ◌+◌, ◌^◌, ◌<◌, ◌≤◌, List, [], ◌∷◌, ◌++◌, length, Some, codes}
use Rattle.hex.specs.Hex.{encode_lower}
use Rattle.behavior.specs.Moment.{AreBytes}
use Rattle.rd_num.specs.Numeral.{numeral}
use Rattle.watch_script.specs.declared.event.Event.{Event}
use Rattle.watch_script.specs.declared.event.Event.TheVariants.{Read, Write}
use Rattle.watch_script.specs.Events.{after_of, last_after}

-- STEPS read ADDRESS LENGTH
pub record IsRead (line : List ℕ) (after at len : ℕ) : Type 0 where
  pub steps : List ℕ
  pub address : List ℕ
  pub count : List ℕ
  pub parts : line ≡ steps ++ (codes " read " ++ (address ++ 32 ∷ count))
  pub steps_are : numeral 10 20 (2 ^ 64) steps ≡ Some after
  pub address_is : numeral 16 16 (2 ^ 64) address ≡ Some at
  pub len_is : numeral 10 4 4097 count ≡ Some len
  pub some : 1 ≤ len

-- STEPS write ADDRESS BYTES, each byte as two digits in lower case
pub record IsWrite (line : List ℕ) (after at : ℕ) (bytes : List ℕ) : Type 0 where
  pub steps : List ℕ
  pub address : List ℕ
  pub parts : line ≡ steps ++ (codes " write " ++ (address ++ 32 ∷ encode_lower bytes))
  pub steps_are : numeral 10 20 (2 ^ 64) steps ≡ Some after
  pub address_is : numeral 16 16 (2 ^ 64) address ≡ Some at
  pub are_bytes : AreBytes bytes
  pub some : 1 ≤ length bytes
  pub few : length bytes ≤ 4096

-- a line of an event
abbrev pub IsLine : List ℕ → Event → Type 0
IsLine line (Read after at len) = IsRead line after at len
IsLine line (Write after at bytes) = IsWrite line after at bytes

-- bytes are the lines of events, each with a line feed at its end; none comes before an earlier one or before a number of instructions
abbrev pub AreLines : ℕ → List ℕ → List Event → Type 0
AreLines least bytes [] = bytes ≡ []
AreLines least bytes (e ∷ es) = (line : List ℕ) × ((rest : List ℕ) × ((bytes ≡ line ++ 10 ∷ rest) × (IsLine line e × ((least ≤ after_of e) × AreLines (after_of e) rest es))))

-- bytes are the script of these events
pub record ScriptOf (bytes : List ℕ) (events : List Event) : Type 0 where
  pub lines : AreLines 0 bytes events
  pub few : length events ≤ 4096

-- the line with this number, from 1, is the first bad one: the lines before it are a script, and something that is no next line of it follows
pub record IsFirstBad (bytes : List ℕ) (line : ℕ) : Type 0 where
  pub before : List ℕ
  pub rest : List ℕ
  pub events : List Event
  pub parts : bytes ≡ before ++ rest
  pub good : ScriptOf before events
  pub number : line ≡ length events + 1
  pub more : 0 < length rest
  pub bad : (e : Event) (next behind : List ℕ) → rest ≡ next ++ 10 ∷ behind → IsLine next e → last_after 0 events ≤ after_of e → length events < 4096 → ⊥
