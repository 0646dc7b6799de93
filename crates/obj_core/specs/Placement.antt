-- Where code stands for a layout seed: in an order and at gaps that the seed draws; and how bytes are put over others.
use Rattle.std.specs.Prelude.{ℕ, ◌+◌, ◌-◌, ◌*◌, ◌/◌, ◌%◌, ◌^◌, Bool, ◌&&◌, nat_eq, nat_lt, nat_le, if◌then◌else◌, List, [], ◌∷◌, length, map, replicate, Option, Some, None, slice_get, slice_index, slice_set}
use Rattle.std.specs.List.{range_with_len}
use Rattle.rd_num.specs.Number.{le_bytes}
use Rattle.rd_draw.specs.Draw.{keystream_word, shuffled}
use Rattle.obj_core.specs.declared.object.Object.{Object}
use Rattle.obj_core.specs.declared.object.CodeAt.{CodeAt}
use Rattle.obj_core.specs.declared.piece.Piece.{Piece}
use Rattle.obj_core.specs.Slots.{slot_base}
use Rattle.obj_core.specs.Pieces.{pieces, piece_len}

-- what the keystream of the layout seed is drawn for
abbrev pub order_purpose : ℕ
order_purpose = 1

abbrev pub gap_purpose : ℕ
gap_purpose = 5

-- breakpoints, where nothing else stands
abbrev pub filler : ℕ → List ℕ
filler count = replicate count 0xCC

-- the least multiple of 16 that is not below a number
abbrev pub up16 : ℕ → ℕ
up16 n = (n + 15) / 16 * 16

-- the four bytes of a displacement from the end of an instruction
abbrev pub displacement_bytes : ℕ → ℕ → List ℕ
displacement_bytes to from = le_bytes 4 ((to + 2 ^ 64 - from) % 2 ^ 64)

-- bytes with others in the place of those from an index on
abbrev pub overlaid : List ℕ → ℕ → List ℕ → List ℕ
overlaid bytes at [] = bytes
overlaid bytes at (x ∷ xs) = overlaid (slice_set bytes at x) (at + 1) xs

-- the address of a slot, by the positions of all slots
abbrev pub slot_in : List ℕ → ℕ → ℕ
slot_in at k = slot_base + 16 * slice_index at k

abbrev pub no_piece : Piece
no_piece = record { function = 0; from = 0; to = 0 }

abbrev pub or_no_piece : Option Piece → Piece
or_no_piece None = no_piece
or_no_piece (Some p) = p

-- the piece of a number
unfoldable pub piece_in : List Piece → ℕ → Piece
piece_in ps k = or_no_piece (slice_get ps k)

-- the numbers of the pieces in the order in which they stand
unfoldable pub order : Object → ℕ → List ℕ
order o seed = shuffled (keystream_word seed order_purpose 0) (length (pieces o))

-- where a number stands in a list
abbrev pub index_in : List ℕ → ℕ → ℕ
index_in [] n = 0
index_in (x ∷ xs) n = if nat_eq x n then 0 else index_in xs n + 1

-- where each number below the length of a list stands in it
abbrev pub inverse : List ℕ → List ℕ
inverse xs = map (index_in xs) (range_with_len 0 (length xs))

-- where code begins
abbrev pub code_base : ℕ → ℕ
code_base seed = 0x40000000 + 4096 * (keystream_word seed gap_purpose 0 0 % 65536)

-- where a piece begins behind the end of another, by the word that is drawn for it
abbrev pub start_behind : ℕ → ℕ → ℕ
start_behind end word = up16 end + 16 * (word % 32)

-- where pieces begin that stand one behind the other, each by the next word
abbrev pub starts_from : (ℕ → ℕ) → ℕ → ℕ → List Piece → List ℕ
starts_from words i end [] = []
starts_from words i end (p ∷ ps) = start_behind end (words i) ∷ starts_from words (i + 1) (start_behind end (words i) + piece_len p) ps

-- the pieces of these numbers
abbrev pub pieces_in : List Piece → List ℕ → List Piece
pieces_in ps ks = map (piece_in ps) ks

-- the pieces in the order in which they stand
abbrev pub row : Object → ℕ → List Piece
row o seed = pieces_in (pieces o) (order o seed)

unfoldable pub starts : Object → ℕ → List ℕ
starts o seed = starts_from (keystream_word seed gap_purpose 0) 1 (code_base seed) (row o seed)

-- whether a piece holds a byte of a function
abbrev pub has_byte : Piece → CodeAt → Bool
has_byte p c = nat_eq p.function c.function && (nat_le p.from c.offset && nat_lt c.offset p.to)

-- the address of a byte of a function: it is as far from the start of the piece that holds it as in the function;
-- places and starts are by the piece's number and by its place
abbrev pub address_from : List ℕ → List ℕ → ℕ → List Piece → CodeAt → ℕ
address_from places starts k [] c = 0
address_from places starts k (p ∷ ps) c =
    if has_byte p c then slice_index starts (slice_index places k) + (c.offset - p.from) else address_from places starts (k + 1) ps c

-- 0 where the object has no such byte
unfoldable pub address : Object → ℕ → CodeAt → ℕ
address o seed c = address_from (inverse (order o seed)) (starts o seed) 0 (pieces o) c

-- the start of a function
abbrev pub start_of : ℕ → CodeAt
start_of n = record { function = n; offset = 0 }
