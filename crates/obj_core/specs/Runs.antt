-- Where bytes stand that are counted through a row of runs, and how bytes are put there.
use Rattle.std.specs.Prelude.{ℕ, ◌+◌, ◌-◌, max, nat_lt, if◌then◌else◌, List, [], ◌∷◌, slice_set}
use Rattle.obj_core.specs.declared.piece.Piece.{Piece}
use Rattle.obj_core.specs.declared.run.Run.{Run}
use Rattle.obj_core.specs.Slots.{slot_base}
use Rattle.obj_core.specs.Pieces.{piece_len}

-- the place where runs end
abbrev pub end_of_runs : List Run → ℕ
end_of_runs [] = 0
end_of_runs (r ∷ rs) = max r.end (end_of_runs rs)

-- the address of the byte at a place
abbrev pub address_at : List Run → ℕ → ℕ
address_at [] at = 0
address_at (r ∷ rs) at = if nat_lt at r.end then r.start + (at - r.front) else address_at rs at

-- the bytes of a segment that starts at an address, with others in the place of those at a place and on
abbrev pub put_at : List Run → ℕ → List ℕ → ℕ → List ℕ → List ℕ
put_at runs start all at [] = all
put_at runs start all at (x ∷ xs) = put_at runs start (slice_set all (address_at runs at - start) x) (at + 1) xs

-- pieces put end to end, from a place on, each with its start by its number
abbrev pub runs_from : (ℕ → ℕ) → ℕ → ℕ → List Piece → List Run
runs_from start k front [] = []
runs_from start k front (p ∷ ps) = record { front = front; end = front + piece_len p; start = start k } ∷ runs_from start (k + 1) (front + piece_len p) ps

-- slots of so many bytes
abbrev pub slot_run : ℕ → Run
slot_run size = record { front = 0; end = size; start = slot_base }
