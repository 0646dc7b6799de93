-- The first piece of a text as a function: what the private calls answer. That it tells the pieces of
-- `Tokens`, and no others, is proved in `proofs/`; the public calls cite `Tokens` alone.
use Rattle.std.specs.Prelude.{ℕ, suc, ◌+◌, ◌*◌, Bool, false, cond, ◌&&◌, ◌||◌, ◌==◌, nat_lt, nat_le, List, [], ◌∷◌, length, take, drop, ℤ, pos, neg_ℤ, Option, Some, None}
use Rattle.std.specs.Option.{option_map}
use Rattle.std.specs.List.{prefix_len, list_all}
use Rattle.std.specs.Char.{is_ascii_digit, is_ascii_hexdigit, digit_value}
use Rattle.std.specs.Str.Parse.{digits_value}
use Rattle.ir_lex.specs.Tokens.{is_run_byte, is_separator, is_mark, is_name_byte, is_text_byte, in_line, starts}
use Rattle.ir_lex.specs.declared.class.Start.{Start}
use Rattle.ir_lex.specs.declared.class.Start.TheVariants as start
use Rattle.ir_lex.specs.declared.class.Class.{Class}
use Rattle.ir_lex.specs.declared.class.Class.TheVariants as class
use Rattle.ir_lex.specs.declared.escape.Escape.{Escape}
use Rattle.ir_lex.specs.declared.escape.Escape.TheVariants.{Plain, Backslash, High}
use Rattle.ir_lex.specs.declared.escape.Step.{Step}
use Rattle.ir_lex.specs.declared.escape.Step.TheVariants.{End, Byte, Within, Stray as Wrong}
use Rattle.ir_lex.specs.declared.first.Found.{Found}
use Rattle.ir_lex.specs.declared.first.Found.TheVariants.{Gap, Token, Stray}
use Rattle.ir_lex.specs.declared.token.TokenKind.{TokenKind}
use Rattle.ir_lex.specs.declared.token.TokenKind.TheVariants as kind

-- what a byte begins
unfoldable pub start_of : ℕ → Start
start_of b =
    cond (is_run_byte b) start.Run
    (cond (is_separator b) start.Separator
    (cond (b == 59) start.Comment
    (cond (b == 34) start.Quote
    (cond (b == 64) start.Global
    (cond (b == 37) start.Local
    (cond (b == 33) start.Meta
    (cond (b == 35) start.Hash
    (cond (is_mark b) start.Mark start.Nothing))))))))

-- the bytes of a class
abbrev pub test_of : Class → ℕ → Bool
test_of class.Run b = is_run_byte b
test_of class.Digit b = is_ascii_digit b
test_of class.Name b = is_name_byte b
test_of class.Text b = is_text_byte b
test_of class.Line b = in_line b

-- whether `c` and a quote stand first
abbrev pub opens_string : List ℕ → Bool
opens_string [] = false
opens_string (a ∷ []) = false
opens_string (a ∷ b ∷ _) = a == 99 && b == 34

-- the length of the run that stands first, 0 for none
abbrev pub run_len_of : List ℕ → ℕ
run_len_of text = cond (opens_string text) 0 (prefix_len is_run_byte text)

-- the number that 1 to 38 digits write
abbrev pub magnitude_of : List ℕ → Option ℕ
magnitude_of digits =
    cond (nat_lt 0 (length digits) && nat_le (length digits) 38 && list_all is_ascii_digit digits) (Some (digits_value 10 digits)) None

-- the number that a run spells
abbrev pub number_of : List ℕ → Option ℤ
number_of [] = None
number_of (b ∷ bytes) =
    cond (b == 45) (option_map (λ n. neg_ℤ (pos n)) (magnitude_of bytes)) (option_map pos (magnitude_of (b ∷ bytes)))

-- the value of a hexadecimal digit
abbrev pub hex_of : ℕ → Option ℕ
hex_of b = cond (is_ascii_hexdigit b) (Some (digit_value b)) None

-- a byte behind two others of an escape
abbrev pub pair_of : Option ℕ → Option ℕ → Step
pair_of None low = Wrong
pair_of (Some h) None = Wrong
pair_of (Some h) (Some l) = Byte (16 * h + l)

-- what a byte of a string does
abbrev pub step_of : Escape → ℕ → Step
step_of Plain b = cond (b == 34) End (cond (b == 92) (Within Backslash) (Byte b))
step_of Backslash b = cond (b == 92) (Byte b) (cond (is_ascii_hexdigit b) (Within (High b)) Wrong)
step_of (High h) b = pair_of (hex_of h) (hex_of b)

-- one byte more, and one byte of its spelling
abbrev pub with_byte : ℕ → Option (List ℕ × ℕ) → Option (List ℕ × ℕ)
with_byte b None = None
with_byte b (Some x) = Some (b ∷ x.0, suc x.1)

-- one byte more of a spelling
abbrev pub with_spelling : Option (List ℕ × ℕ) → Option (List ℕ × ℕ)
with_spelling None = None
with_spelling (Some x) = Some (x.0, suc x.1)

-- what is left behind a byte that did this, the rest being told by what has been read of an escape
abbrev pub after : Step → (Escape → Option (List ℕ × ℕ)) → Option (List ℕ × ℕ)
after End rest = Some ([], 0)
after (Byte byte) rest = with_byte byte (rest Plain)
after (Within next) rest = with_spelling (rest next)
after Wrong rest = None

-- the bytes of a string up to its closing quote, and how many bytes spell them
abbrev pub string_from : Escape → List ℕ → Option (List ℕ × ℕ)
string_from at [] = None
string_from at (b ∷ text) = after (step_of at b) (λ next. string_from next text)

-- a run with no colon behind it, by the number that it spells
abbrev pub run_as : Option ℤ → List ℕ → Found
run_as None run = Token (kind.Word run) (length run)
run_as (Some n) run = Token (kind.Int n) (length run)

-- a run with no colon behind it
abbrev pub number_or_word : List ℕ → Found
number_or_word run = run_as (number_of run) run

-- a `c` string, by its bytes and the length of their spelling
abbrev pub string_as : Option (List ℕ × ℕ) → Found
string_as None = Stray
string_as (Some x) = Token (kind.CStr x.0) (x.1 + 3)

-- what begins with `c` and a quote, by what stands behind them
abbrev pub string_found : List ℕ → Found
string_found text = string_as (string_from Plain text)

-- what begins with a byte of a run, by the length of the run, 0 for none
abbrev pub run_by : ℕ → List ℕ → Found
run_by n text =
    cond (n == 0) (string_found (drop 2 text))
    (cond (starts 58 (drop n text)) (Token (kind.Label (take n text)) (n + 1)) (number_or_word (take n text)))

-- what begins with a byte of a run
unfoldable pub run_found : List ℕ → Found
run_found text = run_by (run_len_of text) text

-- n where a quote stands behind n bytes, and these are some
abbrev pub closed_at : ℕ → List ℕ → Option ℕ
closed_at n text = cond (nat_lt 0 n && starts 34 (drop n text)) (Some n) None

-- the length of the quoted name behind an opening quote
abbrev pub quoted_name_at : List ℕ → Option ℕ
quoted_name_at text = closed_at (prefix_len is_name_byte text) text

-- a string of n bytes, by what stands behind its opening quote
abbrev pub text_by : ℕ → List ℕ → Found
text_by n text = cond (starts 34 (drop n text)) (Token (kind.Str (take n text)) (n + 2)) Stray

-- a string, by what stands behind its opening quote
abbrev pub text_found : List ℕ → Found
text_found text = text_by (prefix_len is_text_byte text) text

-- what begins with a quote, by the length of the quoted name there
abbrev pub quote_as : Option ℕ → List ℕ → Found
quote_as None text = text_found text
quote_as (Some n) text =
    cond (starts 58 (drop (n + 1) text)) (Token (kind.Label (take n text)) (n + 3)) (text_found text)

-- what begins with a quote, by what stands behind it
unfoldable pub quote_found : List ℕ → Found
quote_found text = quote_as (quoted_name_at text) text

-- whether a run is all digits, or has no digit first
abbrev pub may_name : List ℕ → Bool
may_name run = prefix_len is_ascii_digit run == 0 || prefix_len is_ascii_digit run == length run

-- a name between quotes, by its length, and how many bytes spell it
abbrev pub quoted_as : Option ℕ → List ℕ → Option (List ℕ × ℕ)
quoted_as None text = None
quoted_as (Some n) text = Some (take n text, n + 2)

-- a run as a name, by its length
abbrev pub run_name : ℕ → List ℕ → Option (List ℕ × ℕ)
run_name n text = cond (nat_lt 0 n && may_name (take n text)) (Some (take n text, n)) None

-- the name behind a sigil, and how many bytes spell it
unfoldable pub name_at : List ℕ → Option (List ℕ × ℕ)
name_at [] = None
name_at (b ∷ text) =
    cond (b == 34) (quoted_as (quoted_name_at text) text) (run_name (run_len_of (b ∷ text)) (b ∷ text))

-- a token that is a sigil and a name
abbrev pub name_found : (List ℕ → TokenKind) → Option (List ℕ × ℕ) → Found
name_found make None = Stray
name_found make (Some x) = Token (make x.0) (x.1 + 1)

-- a token that is `#` and a run of n bytes
abbrev pub hash_found : ℕ → List ℕ → Found
hash_found n text = cond (n == 0) Stray (Token (kind.Hash (take n text)) (n + 1))

-- a token that is `!` and a run of n bytes
abbrev pub meta_found : ℕ → List ℕ → Found
meta_found n text = Token (kind.Meta (take n text)) (n + 1)

-- what stands first, by what its first byte begins
abbrev pub found_by : Start → ℕ → List ℕ → Found
found_by start.Run b text = run_found (b ∷ text)
found_by start.Separator b text = Gap 1
found_by start.Comment b text = Gap (prefix_len in_line text + 1)
found_by start.Quote b text = quote_found text
found_by start.Global b text = name_found kind.Global (name_at text)
found_by start.Local b text = name_found kind.Local (name_at text)
found_by start.Meta b text = meta_found (run_len_of text) text
found_by start.Hash b text = hash_found (run_len_of text) text
found_by start.Mark b text = Token (kind.Mark b) 1
found_by start.Nothing b text = Stray

-- what stands first in a text
unfoldable pub found_in : List ℕ → Found
found_in [] = Stray
found_in (b ∷ text) = found_by (start_of b) b text
