-- Numbers as digits of a base.
use Rattle.std.specs.Prelude.{ℕ, ◌+◌, ◌-◌, ◌*◌, ◌&&◌, nat_le, nat_lt, if◌then◌else◌, List, [], ◌∷◌, length, Option, Some, None}

-- the value of a digit, 0 to 9 and then a to f; anything else has none below 16
abbrev pub digit_value : ℕ → ℕ
digit_value c = if nat_le 48 c && nat_le c 57 then c - 48 else (if nat_le 97 c && nat_le c 102 then c - 87 else 16)

-- the number that digits of a base write behind others, whose number is n
abbrev pub number_behind : ℕ → ℕ → List ℕ → Option ℕ
number_behind base n [] = Some n
number_behind base n (c ∷ cs) = if nat_lt (digit_value c) base then number_behind base (n * base + digit_value c) cs else None

-- the number, where it is below a limit
abbrev pub below : ℕ → Option ℕ → Option ℕ
below limit None = None
below limit (Some n) = if nat_lt n limit then Some n else None

-- the number of a word of 1 to so many digits of a base, where it is below a limit; leading zeros count as digits
abbrev pub numeral : ℕ → ℕ → ℕ → List ℕ → Option ℕ
numeral base most limit word = if nat_le 1 (length word) && nat_le (length word) most then below limit (number_behind base 0 word) else None
