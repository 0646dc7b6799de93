-- the first place of what is left is that of all
use Rattle.std.proofs.Common.{◌≡◌, drop}
use Rattle.std.specs.List.{flat_map, enumerate_from}
use Rattle.ir_core.specs.Valid.{faults_in_block}
use Rattle.ir_types.specs.Spots.{first_spot}
use Rattle.ir_types.proofs.spots.first_block.Given as goal

abbrev pub invariant-loop-k : goal.invariant-loop-k
invariant-loop-k l =
    first_spot (flat_map (faults_in_block l.tables l.scope l.number) (enumerate_from l.k (drop l.k l.scope.blocks))) ≡ first_spot (flat_map (faults_in_block l.tables l.scope l.number) (enumerate_from 0 l.scope.blocks))
