-- the first place of what is left is that of all
use Rattle.std.proofs.Common.{◌≡◌, drop}
use Rattle.std.specs.List.{flat_map, enumerate_from}
use Rattle.ir_core.specs.Valid.{faults_in_function}
use Rattle.ir_types.specs.Spots.{first_spot, functions_faults}
use Rattle.ir_types.proofs.whole.first_of_functions.Given as goal

abbrev pub invariant-loop-k : goal.invariant-loop-k
invariant-loop-k l = first_spot (flat_map (faults_in_function l.tables) (enumerate_from l.k (drop l.k l.tables.functions))) ≡ first_spot (functions_faults l.tables)
