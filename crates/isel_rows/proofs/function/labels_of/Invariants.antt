-- the labels so far, and that those to come differ
use Rattle.std.proofs.Common.{◌≡◌, [], drop, take, map}
use Rattle.ir_core.specs.Definitions.{repeated}
use Rattle.low_core.specs.declared.moves.Chunk.{Chunk}
use Rattle.isel_rows.proofs.function.labels_of.Given as goal

abbrev pub invariant-loop-c : goal.invariant-loop-c
invariant-loop-c l = record {
  differ : repeated l.labels (map (λ (c : Chunk). c.label) (drop l.c-index l.chunks)) ≡ [];
  added : l.labels ≡ map (λ (c : Chunk). c.label) (take l.c-index l.chunks);
}
