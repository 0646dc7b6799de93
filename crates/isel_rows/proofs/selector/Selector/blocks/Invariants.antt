-- the blocks so far and those to come
use Rattle.std.proofs.Common.{◌≡◌, ◌+◌, ◌++◌, drop, map}
use Rattle.std.specs.List.{sum_by}
use Rattle.ir_core.specs.declared.module.Block.{Block}
use Rattle.low_core.specs.Plain.{block_of}
use Rattle.isel_rows.specs.Functions.{allocas_in, blocks_selected}
use Rattle.isel_rows.proofs.selector.Selector.blocks.Given as goal

abbrev pub invariant-loop-c : goal.invariant-loop-c
invariant-loop-c l = record {
  blocks : l.all ++ blocks_selected l.self.context.now l.self.variables.now l.labels l.at (map block_of (drop l.c-index l.chunks)) ≡ blocks_selected l.self.context.now l.self.variables.now l.labels l.initial.at (map block_of l.chunks);
  at : l.at + sum_by (λ (b : Block). allocas_in l.self.context.now.types b.insts) (map block_of (drop l.c-index l.chunks)) ≡ l.initial.at + sum_by (λ (b : Block). allocas_in l.self.context.now.types b.insts) (map block_of l.chunks);
}
