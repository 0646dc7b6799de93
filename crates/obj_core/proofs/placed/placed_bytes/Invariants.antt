use Rattle.std.proofs.Common.{◌≡◌, ◌≤◌, ◌++◌, length, drop}
use Rattle.obj_core.specs.Placement.{pieces_in}
use Rattle.obj_core.specs.Layout.{bytes_in, code_from}
use Rattle.obj_core.proofs.placed.placed_bytes.Given as goal

-- the bytes so far, with those of the pieces that are left, are all
abbrev pub invariant-loop-i : goal.invariant-loop-i
invariant-loop-i l =
    let bytes = bytes_in l.functions in
    record {
      small : l.end ≤ 0x200000000;
      bytes : l.all ++ code_from bytes l.end (drop l.i l.starts) (pieces_in l.pieces (drop l.i l.order)) ≡ code_from bytes l.base l.starts (pieces_in l.pieces l.order);
    }
