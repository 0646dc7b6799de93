use Rattle.std.proofs.Common.{◌≡◌, ◌++◌, drop}
use Rattle.obj_core.specs.Pieces.{pieces_from}
use Rattle.obj_core.proofs.piece.pieces_of.Given as goal

-- the pieces so far, with those of the functions that are left, are all
abbrev pub invariant-loop-i : goal.invariant-loop-i
invariant-loop-i l = l.all ++ pieces_from l.i (drop l.i l.functions) ≡ pieces_from 0 l.functions
