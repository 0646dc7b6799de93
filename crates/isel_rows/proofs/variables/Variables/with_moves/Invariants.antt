-- the moves so far
use Rattle.std.proofs.Common.{◌≡◌, map, fold, take}
use Rattle.ir_core.specs.Valid.{kinds_in}
use Rattle.low_core.specs.Plain.{inst_of}
use Rattle.isel_rows.specs.Kept.{with_local}
use Rattle.isel_rows.proofs.variables.Variables.with_moves.Given as goal

abbrev pub invariant-loop-x : goal.invariant-loop-x
invariant-loop-x l = l.all ≡ fold with_local l.initial.all (kinds_in (map inst_of (take l.x-index l.moves)))
