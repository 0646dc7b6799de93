-- the most so far, and those to come
use Rattle.std.proofs.Common.{◌≡◌, ◌<◌, ◌^◌, drop, map, max}
use Rattle.std.specs.List.{flat_map}
use Rattle.ir_core.specs.declared.instruction.Inst.{Inst}
use Rattle.ir_core.specs.Counts.{greatest}
use Rattle.ir_core.specs.Definitions.{result_names}
use Rattle.low_core.specs.Plain.{inst_of}
use Rattle.switch_lower.specs.Fresh.{zeros_of}
use Rattle.switch_lower.proofs.fresh.zeros_of_moves.Given as goal

abbrev pub invariant-loop-x : goal.invariant-loop-x
invariant-loop-x l = record {
  within : l.most < 2 ^ 63;
  rest : max l.most (greatest (map zeros_of (flat_map (λ (i : Inst). result_names i.result) (map inst_of (drop l.x-index l.moves)))))
      ≡ greatest (map zeros_of (flat_map (λ (i : Inst). result_names i.result) (map inst_of l.moves)));
}
