-- the chunks so far
use Rattle.std.proofs.Common.{◌≡◌, map, fold, take}
use Rattle.ir_core.specs.Valid.{results_of}
use Rattle.low_core.specs.Plain.{block_of}
use Rattle.isel_rows.specs.Kept.{with_local}
use Rattle.isel_rows.proofs.variables.Variables.with_chunks.Given as goal

abbrev pub invariant-loop-c : goal.invariant-loop-c
invariant-loop-c l = l.all ≡ fold with_local l.initial.all (results_of (map block_of (take l.c-index l.chunks)))
