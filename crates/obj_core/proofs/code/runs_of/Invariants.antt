use Rattle.std.proofs.Common.{ℕ, ◌≡◌, ◌+◌, ◌≤◌, ◌++◌, drop}
use Rattle.std.specs.Prelude.{slice_index}
use Rattle.std.specs.List.{sum_by}
use Rattle.obj_core.specs.Pieces.{piece_len}
use Rattle.obj_core.specs.Runs.{runs_from}
use Rattle.obj_core.proofs.code.runs_of.Given as goal

-- the runs so far, with those of the pieces that are left, are all
abbrev pub invariant-loop-i : goal.invariant-loop-i
invariant-loop-i l =
    let start = λ (k : ℕ). slice_index l.starts (slice_index l.places k) in
    record {
      small : l.front + sum_by piece_len (drop l.i l.pieces) ≤ 67108864;
      runs : l.all ++ runs_from start l.i l.front (drop l.i l.pieces) ≡ runs_from start 0 0 l.pieces;
    }
