-- Cells of numbers, and rows of cells that are compared one by one.
use Rattle.std.proofs.Common.{◌≡◌, ℕ, suc, ◌+◌, ◌*◌, ◌<◌, ◌≤◌, ◌%◌, ◌^◌, subst, arith, List, [], ◌∷◌, Option, Some, None, Ok, Err, ◌&&◌, map, take, refl}
use Rattle.std.specs.Prelude.{option_map, IfSome}
use Rattle.std.proofs.Math.Nat.{pow-suc, pow-le-pow_right}
use Rattle.rd_num.specs.declared.width.Width.{Width}
use Rattle.rd_num.specs.declared.width.Width.TheVariants.{W1, W8, W16, W32, W64}
use Rattle.rd_num.specs.Number.{bits, le_bytes, le_number}
use Rattle.ir_core.specs.declared.memory.Value.{Value}
use Rattle.ir_core.specs.declared.memory.Value.TheVariants.{Num}
use Rattle.ir_core.specs.declared.memory.Cell.{Cell}
use Rattle.ir_core.specs.declared.memory.Cell.TheVariants.{Unset, Byte, Piece}
use Rattle.ir_core.specs.declared.memory.Reason.TheVariants.{Mixed}
use Rattle.ir_core.specs.Stops.{Left, Answer}
use Rattle.ir_core.specs.Shapes.{bytes_of}
use Rattle.ir_core.specs.Memory.{same_cells, number_read}
use Rattle.ir_memory.specs.Reads.{same_cell}

-- the low bytes of a number are the first of its eight
pub low_cells : (w : Width) (n : ℕ) → take (bytes_of w) (map Byte (le_bytes 8 n)) ≡ map Byte (le_bytes (bytes_of w) n)
low_cells W1 n = refl
low_cells W8 n = refl
low_cells W16 n = refl
low_cells W32 n = refl
low_cells W64 n = refl

-- rows are the same where their first cells and the rest are
pub one_more_same : (c d : Cell) (cs ds : List Cell) → same_cells (c ∷ cs) (d ∷ ds) ≡ (same_cell c d && same_cells cs ds)
one_more_same Unset Unset cs ds = refl
one_more_same Unset (Byte n) cs ds = refl
one_more_same Unset (Piece v k) cs ds = refl
one_more_same (Byte m) Unset cs ds = refl
one_more_same (Byte m) (Byte n) cs ds = refl
one_more_same (Byte m) (Piece v k) cs ds = refl
one_more_same (Piece u j) Unset cs ds = refl
one_more_same (Piece u j) (Byte n) cs ds = refl
one_more_same (Piece u j) (Piece v k) cs ds = refl

-- what bytes read as, by the number that they spell
abbrev pub number_from : Width → Option ℕ → Answer Value
number_from w (Some n) = Ok (Num w (n % 2 ^ bits w))
number_from w None = Err (Left Mixed)

pub read_number : (w : Width) (bytes : Option (List ℕ)) → number_read w bytes ≡ number_from w (option_map le_number bytes)
read_number w (Some ns) = refl
read_number w None = refl

-- a row of at most eight bytes, and the number above its lowest
pub fits_above : (n k : ℕ) → n < 256 ^ k → k ≤ 7 → n < 256 ^ 7
fits_above n k small few = let most : 256 ^ k ≤ 256 ^ 7 = pow-le-pow_right (omega arith) few in omega arith

pub fits_with_low : (r : Option ℕ) (above k len : ℕ) → IfSome r (λ n. n < 256 * (above + 1)) → above < 256 ^ k → len ≡ k + 1 → IfSome r (λ n. n < 256 ^ len)
fits_with_low None above k len low small is = tt
fits_with_low (Some n) above k len low small is =
    let whole : 256 ^ suc k ≡ 256 ^ k * 256 = pow-suc 256 k in
    let less : n < 256 ^ suc k = omega arith in
    let last : suc k ≡ len = omega arith in
    subst (λ j. n < 256 ^ j) last less
