use Rattle.std.proofs.Common.{◌≡◌, ◌++◌, length, drop}
use Rattle.obj_core.specs.Pieces.{pieces_between, pieces_of}
use Rattle.obj_core.proofs.piece.put_pieces.Given as goal

-- the pieces so far, with those of the cuts that are left, are all
abbrev pub invariant-loop-to : goal.invariant-loop-to
invariant-loop-to l = l.all ++ pieces_between l.function l.from (drop l.to-index l.cut.cuts) (length l.cut.bytes) ≡ l.fn.all ++ pieces_of l.function l.cut
