-- The pieces of an object, in which its functions are cut: by the functions' numbers, and in a function by offset.
use Rattle.std.specs.Prelude.{ℕ, ◌+◌, ◌-◌, List, [], ◌∷◌, ◌++◌, length}
use Rattle.obj_core.specs.declared.object.Object.{Object}
use Rattle.obj_core.specs.declared.object.Func.{Func}
use Rattle.obj_core.specs.declared.piece.Piece.{Piece}

-- the pieces from an offset to the end, where these cuts lie between
abbrev pub pieces_between : ℕ → ℕ → List ℕ → ℕ → List Piece
pieces_between n from [] end = record { function = n; from = from; to = end } ∷ []
pieces_between n from (c ∷ cs) end = record { function = n; from = from; to = c } ∷ pieces_between n c cs end

-- the pieces of a function: each goes from 0 or a cut to the next cut or the end
abbrev pub pieces_of : ℕ → Func → List Piece
pieces_of n f = pieces_between n 0 f.cuts (length f.bytes)

-- the pieces of functions, of which the first has a number
abbrev pub pieces_from : ℕ → List Func → List Piece
pieces_from n [] = []
pieces_from n (f ∷ fs) = pieces_of n f ++ pieces_from (n + 1) fs

abbrev pub pieces : Object → List Piece
pieces o = pieces_from 0 o.functions

-- how many bytes a piece has
abbrev pub piece_len : Piece → ℕ
piece_len p = p.to - p.from
