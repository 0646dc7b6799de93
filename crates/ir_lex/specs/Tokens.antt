-- The tokens of a text. A text is a row of separators, comments and tokens; which bytes spell which
-- token, before which rest, is said for each kind of token by itself.
use Rattle.std.specs.Prelude.{◌≡◌, ℕ, ◌+◌, ◌*◌, ◌<◌, ◌≤◌, ◌⊎◌, ◌≢◌, Bool, false, ◌&&◌, ◌||◌, not, List, [], ◌∷◌, ◌++◌, length, ◌==◌, nat_le, IsTrue, ℤ, pos, neg_ℤ, codes}
use Rattle.std.specs.List.{flat_map, list_any, AllPass}
use Rattle.std.specs.Char.{is_ascii_alphanumeric, is_ascii_digit, is_ascii_hexdigit, digit_value}
use Rattle.std.specs.Str.Parse.{digits_value}
use Rattle.ir_lex.specs.declared.LexFault.{LexFault}
use Rattle.ir_lex.specs.declared.LexFault.TheVariants.{At, NoMemory}
use Rattle.ir_lex.specs.declared.token.Token.{Token}
use Rattle.ir_lex.specs.declared.token.TokenKind.{TokenKind}
use Rattle.ir_lex.specs.declared.token.TokenKind.TheVariants.{Label, CStr, Int, Word, Global, Local, Meta, Hash, Str, Mark}

-- space, tab, carriage return and line feed
unfoldable pub is_separator : ℕ → Bool
is_separator b = b == 32 || b == 9 || b == 13 || b == 10

-- `A-Z a-z 0-9 $ . _ -`
unfoldable pub is_run_byte : ℕ → Bool
is_run_byte b = is_ascii_alphanumeric b || b == 36 || b == 46 || b == 95 || b == 45

-- a byte of a quoted name: visible ASCII and the space, without the quote and the backslash
unfoldable pub is_name_byte : ℕ → Bool
is_name_byte b = nat_le 32 b && nat_le b 126 && not (b == 34) && not (b == 92)

-- a byte of a string: from the space up, without the quote
unfoldable pub is_text_byte : ℕ → Bool
is_text_byte b = nat_le 32 b && not (b == 34)

-- the punctuation
unfoldable pub is_mark : ℕ → Bool
is_mark b = list_any (λ m. m == b) (codes "=,()[]{}<>*|+:")

-- whether a text's first byte passes
abbrev pub begins : (ℕ → Bool) → List ℕ → Bool
begins test [] = false
begins test (b ∷ _) = test b

-- whether a text's first byte is this one
abbrev pub starts : ℕ → List ℕ → Bool
starts b [] = false
starts b (c ∷ _) = c == b

-- A run: one or more of its bytes, with none of them after it. The byte `c` before a quote is none.
pub record IsRun (run rest : List ℕ) : Type 0 where
  pub filled : 0 < length run
  pub bytes : AllPass is_run_byte run
  pub longest : begins is_run_byte rest ≡ false
  pub no_string : run ≡ codes "c" → starts 34 rest ≡ false

-- bytes between quotes
abbrev pub quoted : List ℕ → List ℕ
quoted inner = 34 ∷ inner ++ 34 ∷ []

-- a name between quotes
pub record IsQuoted (name bytes : List ℕ) : Type 0 where
  pub spelling : bytes ≡ quoted name
  pub filled : 0 < length name
  pub bytes_of_name : AllPass is_name_byte name

-- how one byte of a `c` string is spelled: as itself, by two backslashes, or by a backslash and two hexadecimal digits
abbrev pub SpellsByte : ℕ → List ℕ → Type 0
SpellsByte b bytes =
    ((bytes ≡ b ∷ []) × (b ≢ 34) × (b ≢ 92))
    ⊎ (((bytes ≡ 92 ∷ 92 ∷ []) × (b ≡ 92))
    ⊎ ((high : ℕ) × (low : ℕ) × (bytes ≡ 92 ∷ high ∷ low ∷ []) × IsTrue (is_ascii_hexdigit high) × IsTrue (is_ascii_hexdigit low)
    × (b ≡ 16 * digit_value high + digit_value low)))

-- how the bytes of a `c` string are spelled, one after another
abbrev pub SpellsBytes : List ℕ → List ℕ → Type 0
SpellsBytes [] bytes = bytes ≡ []
SpellsBytes (b ∷ bs) bytes =
    (first : List ℕ) × (more : List ℕ) × (bytes ≡ first ++ more) × SpellsByte b first × SpellsBytes bs more

-- 1 to 38 decimal digits
pub record AreDigits (digits : List ℕ) : Type 0 where
  pub filled : 1 ≤ length digits
  pub few : length digits ≤ 38
  pub bytes : AllPass is_ascii_digit digits

-- a number: its digits, behind a `-` where it is below zero
abbrev pub SpellsNumber : ℤ → List ℕ → Type 0
SpellsNumber n bytes =
    (digits : List ℕ) × AreDigits digits
    × (((bytes ≡ digits) × (n ≡ pos (digits_value 10 digits))) ⊎ ((bytes ≡ 45 ∷ digits) × (n ≡ neg_ℤ (pos (digits_value 10 digits)))))

-- a run that may name a global or a local: all digits, or no digit first
abbrev pub MayName : List ℕ → Type 0
MayName run = AllPass is_ascii_digit run ⊎ (begins is_ascii_digit run ≡ false)

-- a sigil, and directly behind it a name: a run or between quotes
abbrev pub SpellsName : ℕ → List ℕ → List ℕ → List ℕ → Type 0
SpellsName sigil name bytes rest =
    ((bytes ≡ sigil ∷ name) × IsRun name rest × MayName name)
    ⊎ ((text : List ℕ) × (bytes ≡ sigil ∷ text) × IsQuoted name text)

-- no run stands at the front of a text
abbrev pub HasNoRun : List ℕ → Type 0
HasNoRun text = (run rest : List ℕ) → text ≡ run ++ rest → ¬ (IsRun run rest)

-- The bytes spell the token, where this rest follows them. One equation for each kind of token; a kind
-- that stands further down has what keeps the kinds above it away.
abbrev pub Spells : TokenKind → List ℕ → List ℕ → Type 0
-- a run or a quoted name, directly followed by a colon
Spells (Label name) bytes rest =
    (text : List ℕ) × (bytes ≡ text ++ 58 ∷ []) × (((text ≡ name) × IsRun name (58 ∷ rest)) ⊎ IsQuoted name text)
-- `c` and a string, whose escapes are replaced
Spells (CStr s) bytes rest = (inner : List ℕ) × (bytes ≡ 99 ∷ quoted inner) × SpellsBytes s inner
-- a run that is a number, with no colon behind it
Spells (Int n) bytes rest = IsRun bytes rest × (starts 58 rest ≡ false) × SpellsNumber n bytes
-- a run that is no number, with no colon behind it
Spells (Word word) bytes rest =
    (bytes ≡ word) × IsRun word rest × (starts 58 rest ≡ false) × ((n : ℤ) → ¬ (SpellsNumber n word))
Spells (Global name) bytes rest = SpellsName 64 name bytes rest
Spells (Local name) bytes rest = SpellsName 37 name bytes rest
-- `!` and a run, or `!` alone where no run follows it
Spells (Meta text) bytes rest = (bytes ≡ 33 ∷ text) × (IsRun text rest ⊎ ((text ≡ []) × HasNoRun rest))
-- `#` and a run
Spells (Hash text) bytes rest = (bytes ≡ 35 ∷ text) × IsRun text rest
-- bytes between quotes, where they are no quoted name with a colon behind it
Spells (Str s) bytes rest =
    (bytes ≡ quoted s) × AllPass is_text_byte s × ((name : List ℕ) → IsQuoted name bytes → starts 58 rest ≡ false)
Spells (Mark m) bytes rest = (bytes ≡ m ∷ []) × IsTrue (is_mark m)

-- a piece of a text: one separator, a comment, or a token with its spelling
pub data Piece : Type 0 where
  separator : ℕ → Piece
  comment : List ℕ → Piece
  token : TokenKind → List ℕ → Piece

-- the bytes of a piece
abbrev pub piece_bytes : Piece → List ℕ
piece_bytes (separator b) = b ∷ []
piece_bytes (comment bytes) = 59 ∷ bytes
piece_bytes (token kind bytes) = bytes

-- any byte but the line feed
abbrev pub in_line : ℕ → Bool
in_line b = not (b == 10)

-- It is a piece, where this rest follows it: a comment ends before a line feed or with the text.
abbrev pub IsPiece : Piece → List ℕ → Type 0
IsPiece (separator b) rest = IsTrue (is_separator b)
IsPiece (comment bytes) rest = AllPass in_line bytes × (begins in_line rest ≡ false)
IsPiece (token kind bytes) rest = Spells kind bytes rest

-- the bytes of a row of pieces
abbrev pub row_bytes : List Piece → List ℕ
row_bytes pieces = flat_map piece_bytes pieces

-- each is a piece, before those after it and this rest
abbrev pub IsRow : List Piece → List ℕ → Type 0
IsRow [] rest = Unit {0}
IsRow (p ∷ ps) rest = IsPiece p (row_bytes ps ++ rest) × IsRow ps rest

-- the tokens among pieces, the first of which stands at this place
abbrev pub tokens_from : ℕ → List Piece → List Token
tokens_from place [] = []
tokens_from place (separator b ∷ ps) = tokens_from (place + 1) ps
tokens_from place (comment bytes ∷ ps) = tokens_from (place + (length bytes + 1)) ps
tokens_from place (token kind bytes ∷ ps) =
    record { kind = kind; place = place; len = length bytes } ∷ tokens_from (place + length bytes) ps

-- the text is a row of pieces, and these are its tokens
abbrev pub Scans : List ℕ → List Token → Type 0
Scans text tokens =
    (pieces : List Piece) × (text ≡ row_bytes pieces) × IsRow pieces [] × (tokens ≡ tokens_from 0 pieces)

-- no piece stands at the front of a text
abbrev pub HasNoPiece : List ℕ → Type 0
HasNoPiece text = (piece : Piece) (rest : List ℕ) → text ≡ piece_bytes piece ++ rest → ¬ (IsPiece piece rest)

-- the text before this place is a row of pieces, and there, before its end, stands no piece
pub record Stops (text : List ℕ) (place : ℕ) : Type 0 where
  pub pieces : List Piece
  pub rest : List ℕ
  pub cut : text ≡ row_bytes pieces ++ rest
  pub row : IsRow pieces rest
  pub at : place ≡ length (row_bytes pieces)
  pub some_left : 0 < length rest
  pub none : HasNoPiece rest

-- what a fault says of the text; want of memory says nothing
abbrev pub Faults : List ℕ → LexFault → Type 0
Faults text (At place) = Stops text place × ((tokens : List Token) → ¬ (Scans text tokens))
Faults text NoMemory = Unit {0}
