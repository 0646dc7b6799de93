-- What a table says of places.
use Rattle.std.specs.Prelude.{ℕ, ◌*◌, ◌/◌, ◌%◌, Bool, nat_eq, length, slice_index_or}
use Rattle.std.specs.Int.{bit_at}
use Rattle.obj_check.specs.declared.marks.Table.{Table}

-- whether a bit of a word is set
abbrev pub is_set : ℕ → ℕ → Bool
is_set word bit = nat_eq (bit_at word bit) 1

-- the number of places that a table has room for
abbrev pub room : Table → ℕ
room t = 64 * length t.words

-- whether a place is marked; none is past the end
abbrev pub marked : Table → ℕ → Bool
marked t k = is_set (slice_index_or t.words (k / 64) 0) (k % 64)
