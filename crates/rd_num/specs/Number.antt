-- Numbers of a width, and words as bytes.
use Rattle.std.specs.Prelude.{ℕ, zero, suc, ◌+◌, ◌*◌, ◌/◌, ◌%◌, ◌^◌, ◌-◌, List, [], ◌∷◌, ℤ, pos, ◌-ℤ◌, nat_lt, if◌then◌else◌}
use Rattle.rd_num.specs.declared.width.Width.{Width}
use Rattle.rd_num.specs.declared.width.Width.TheVariants.{W1, W8, W16, W32, W64}

abbrev pub bits : Width → ℕ
bits W1 = 1
bits W8 = 8
bits W16 = 16
bits W32 = 32
bits W64 = 64

abbrev pub wrapped : Width → ℕ → ℕ
wrapped w n = n % 2 ^ bits w

-- two's complement: the highest of the low bits counts below zero
abbrev pub signed : Width → ℕ → ℤ
signed w n = if nat_lt (n % 2 ^ bits w) (2 ^ (bits w - 1)) then pos (n % 2 ^ bits w) else (pos (n % 2 ^ bits w) -ℤ pos (2 ^ bits w))

-- the low k bytes of a number, the lowest first
abbrev pub le_bytes : ℕ → ℕ → List ℕ
le_bytes zero n = []
le_bytes (suc k) n = n % 256 ∷ le_bytes k (n / 256)

-- the number that bytes spell
abbrev pub le_number : List ℕ → ℕ
le_number [] = 0
le_number (b ∷ bs) = b + 256 * le_number bs
