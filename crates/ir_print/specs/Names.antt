-- Names, numbers, and lists with something between.
use Rattle.std.specs.Prelude.{ℕ, ◌+◌, ◌/◌, ◌%◌, Bool, ◌&&◌, ◌||◌, not, nat_lt, if◌then◌else◌, List, [], ◌∷◌, ◌++◌, codes, flat_map}
use Rattle.std.specs.List.{list_all}
use Rattle.std.specs.Char.{is_ascii_digit}
use Rattle.ir_lex.specs.Tokens.{begins, is_run_byte, is_name_byte, quoted}

-- a name that is written as it is: all digits, or a run that doesn't begin with a digit
abbrev pub is_plain : List ℕ → Bool
is_plain name = list_all is_run_byte name && (list_all is_ascii_digit name || not (begins is_ascii_digit name))

-- a name behind its mark, between quotes where it isn't plain
unfoldable pub name_text : List ℕ → List ℕ
name_text name = if is_plain name then name else quoted name

-- a local, a global, and a block's label
unfoldable pub local_text : List ℕ → List ℕ
local_text name = 37 ∷ name_text name

unfoldable pub global_text : List ℕ → List ℕ
global_text name = 64 ∷ name_text name

unfoldable pub label_text : List ℕ → List ℕ
label_text name = name_text name ++ 58 ∷ []

-- `, ` in front of each
unfoldable pub after_commas : {A : Type 0} → (A → List ℕ) → List A → List ℕ
after_commas f xs = flat_map (λ x. codes ", " ++ f x) xs

-- `, ` between two
abbrev pub with_commas : {A : Type 0} → (A → List ℕ) → List A → List ℕ
with_commas f [] = []
with_commas f (x ∷ xs) = f x ++ after_commas f xs

-- an upper-case hexadecimal digit
abbrev pub hex_digit : ℕ → ℕ
hex_digit n = if nat_lt n 10 then 48 + n else 55 + n

-- a byte of a `c` string: as it is where a name may have it, else a backslash and two digits
abbrev pub escaped : ℕ → List ℕ
escaped b = if is_name_byte b then b ∷ [] else 92 ∷ hex_digit (b / 16) ∷ hex_digit (b % 16) ∷ []

-- the bytes of a `c` string
unfoldable pub string_text : List ℕ → List ℕ
string_text bytes = 99 ∷ quoted (flat_map escaped bytes)
