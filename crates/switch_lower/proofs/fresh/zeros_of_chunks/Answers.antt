use Rattle.std.proofs.Common.{◌+◌, ◌∙◌, map, max, drop, ap, sym}
use Rattle.std.specs.List.{flat_map}
use Rattle.ir_core.specs.Counts.{greatest}
use Rattle.ir_core.specs.Definitions.{block_names}
use Rattle.low_core.specs.Plain.{block_of}
use Rattle.switch_lower.specs.Fresh.{zeros_of}
use Rattle.switch_lower.proofs.ListLaws.{left_at}
use Rattle.switch_lower.proofs.FreshLaws.{zeros_step}
use Rattle.switch_lower.proofs.fresh.zeros_of_chunks.Goals as goal

pub loop-c-preserved : goal.loop-c-preserved
loop-c-preserved c = record {
  within = c.greater-most.ensures.within;
  rest =
      let later = drop (c.loop-c.c-index + 1) c.args.chunks.now in
      ap (λ n. max n (greatest (map zeros_of (flat_map block_names (map block_of later))))) (c.greater-most.ensures.value ∙ ap (max c.loop-c.most) c.zeros_of_chunk.ensures.value)
      ∙ zeros_step c.loop-c.most (block_of c.c-item.result) (map block_of later)
      ∙ ap (λ cs. max c.loop-c.most (greatest (map zeros_of (flat_map block_names (map block_of cs))))) (sym (left_at c.loop-c.c-index c.args.chunks.now c.c-item.result c.loop-c-test.true c.c-item.is))
      ∙ c.loop-c.invariant.rest;
}
