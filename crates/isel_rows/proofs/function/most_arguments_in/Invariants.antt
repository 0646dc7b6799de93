-- the most so far, and those to come
use Rattle.std.proofs.Common.{◌≡◌, drop, map, max}
use Rattle.std.specs.List.{flat_map}
use Rattle.ir_core.specs.declared.instruction.Inst.{Inst}
use Rattle.ir_core.specs.declared.module.Block.{Block}
use Rattle.ir_core.specs.Counts.{greatest, argument_counts}
use Rattle.low_core.specs.Plain.{block_of}
use Rattle.isel_rows.proofs.function.most_arguments_in.Given as goal

abbrev pub invariant-loop-c : goal.invariant-loop-c
invariant-loop-c l =
    max l.most (greatest (flat_map (λ (b : Block). flat_map (λ (i : Inst). argument_counts i.op) b.insts) (map block_of (drop l.c-index l.chunks))))
    ≡ greatest (flat_map (λ (b : Block). flat_map (λ (i : Inst). argument_counts i.op) b.insts) (map block_of l.chunks))
