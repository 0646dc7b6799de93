-- the most so far, and those to come
use Rattle.std.proofs.Common.{◌≡◌, ◌<◌, ◌^◌, drop, map, max}
use Rattle.std.specs.List.{flat_map}
use Rattle.ir_core.specs.Counts.{greatest}
use Rattle.ir_core.specs.Definitions.{block_names}
use Rattle.low_core.specs.Plain.{block_of}
use Rattle.switch_lower.specs.Fresh.{zeros_of}
use Rattle.switch_lower.proofs.fresh.zeros_of_chunks.Given as goal

abbrev pub invariant-loop-c : goal.invariant-loop-c
invariant-loop-c l = record {
  within : l.most < 2 ^ 63;
  rest : max l.most (greatest (map zeros_of (flat_map block_names (map block_of (drop l.c-index l.chunks)))))
      ≡ greatest (map zeros_of (flat_map block_names (map block_of l.chunks)));
}
