-- the most so far, and those to come
use Rattle.std.proofs.Common.{◌≡◌, drop, map, max}
use Rattle.std.specs.List.{flat_map}
use Rattle.ir_core.specs.declared.instruction.Inst.{Inst}
use Rattle.ir_core.specs.Counts.{greatest, argument_counts}
use Rattle.low_core.specs.Plain.{inst_of}
use Rattle.isel_rows.proofs.function.most_arguments.Given as goal

abbrev pub invariant-loop-x : goal.invariant-loop-x
invariant-loop-x l =
    max l.most (greatest (flat_map (λ (i : Inst). argument_counts i.op) (map inst_of (drop l.x-index l.moves))))
    ≡ greatest (flat_map (λ (i : Inst). argument_counts i.op) (map inst_of l.moves))
