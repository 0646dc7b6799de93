-- What a plan knows: where the code of an object begins, how long it is, and where each piece stands.
use Rattle.std.specs.Prelude.{◌≡◌, ℕ, ◌+◌, ◌-◌, nat_lt, if◌then◌else◌, List, [], ◌∷◌, length, slice_index}
use Rattle.rd_draw.specs.Draw.{keystream_word}
use Rattle.obj_core.specs.declared.object.Object.{Object}
use Rattle.obj_core.specs.declared.object.Func.{Func}
use Rattle.obj_core.specs.declared.object.CodeAt.{CodeAt}
use Rattle.obj_core.specs.declared.run.Run.{Run}
use Rattle.obj_core.specs.declared.piece.Piece.{Piece}
use Rattle.obj_core.specs.declared.code.CodePlan.{CodePlan}
use Rattle.obj_core.specs.Pieces.{pieces, piece_len}
use Rattle.obj_core.specs.WellFormed.{IsWellFormed}
use Rattle.obj_core.specs.Placement.{gap_purpose, up16, order, inverse, code_base, start_behind, row, starts}
use Rattle.obj_core.specs.Runs.{address_at, runs_from}

-- the address of a piece
abbrev pub piece_start : Object → ℕ → ℕ → ℕ
piece_start o seed k = slice_index (starts o seed) (slice_index (inverse (order o seed)) k)

-- the pieces, by their numbers
unfoldable pub piece_runs : Object → ℕ → List Run
piece_runs o seed = runs_from (piece_start o seed) 0 0 (pieces o)

-- where functions begin that are put end to end from a place on, and where the last one ends
abbrev pub fronts_from : ℕ → List Func → List ℕ
fronts_from front [] = front ∷ []
fronts_from front (f ∷ fs) = front ∷ fronts_from (front + length f.bytes) fs

abbrev pub fronts : List Func → List ℕ
fronts fs = fronts_from 0 fs

-- the address that a plan gives a byte of a function; 0 where there is none
abbrev pub planned : CodePlan → CodeAt → ℕ
planned p c = if nat_lt (slice_index p.fronts c.function + c.offset) (slice_index p.fronts (c.function + 1)) then address_at p.runs (slice_index p.fronts c.function + c.offset) else 0

-- where pieces end that stand one behind the other, up to a multiple of 16
abbrev pub end_from : (ℕ → ℕ) → ℕ → ℕ → List Piece → ℕ
end_from words i end [] = up16 end
end_from words i end (p ∷ ps) = end_from words (i + 1) (start_behind end (words i) + piece_len p) ps

-- how many bytes code takes
unfoldable pub code_size : Object → ℕ → ℕ
code_size o seed = end_from (keystream_word seed gap_purpose 0) 1 (code_base seed) (row o seed) - code_base seed

-- the plan of a well-formed object for a layout seed
pub record IsPlan (p : CodePlan) (o : Object) (seed : ℕ) : Type 0 where
  pub well_formed : ∥ IsWellFormed o ∥₁
  pub base : p.base ≡ code_base seed
  pub size : p.size ≡ code_size o seed
  pub fronts_are : p.fronts ≡ fronts o.functions
  pub pieces_are : p.pieces ≡ pieces o
  pub order_is : p.order ≡ order o seed
  pub starts_are : p.starts ≡ starts o seed
  pub runs : p.runs ≡ piece_runs o seed
